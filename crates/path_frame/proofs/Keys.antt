-- What `read_key` answers, and what walks over keys find, one key at a time.
use Rattle.std.proofs.Common.{◌≡◌, ℕ, ◌+◌, Some, None, List}
use Rattle.text.specs.Frame.{got, unread, ◌>>=◌, ret, part, string}
use Rattle.text.specs.Steps.{end_of}
use Rattle.text.proofs.Frames.{ends_after, ends_within, string_at, string_unfit}
use Rattle.path.specs.Bytes.{key}

module _ (f : List ℕ) (at : ℕ) where
  pub key_nameless : end_of (string f at) ≡ None → key f at ≡ unread
  unfolding key ◌>>=◌
  key_nameless g = rw (string_unfit f at g)

  module _ (m : ℕ) (g : end_of (string f at) ≡ Some m) where
    pub key_valueless : end_of (string f m) ≡ None → key f at ≡ unread
    unfolding key ◌>>=◌
    key_valueless h = rw (string_at f at m g, string_unfit f m h)

    pub key_got : (t : ℕ) → end_of (string f m) ≡ Some t → key f at ≡ got (record { name = part f (at + 1) m; value = part f (m + 1) t }) t
    unfolding key ◌>>=◌ ret
    key_got t h = rw (string_at f at m g, string_at f m t h)

-- for the tactic attribute of `read_key`
pub ruleset reading = (ends_after, ends_within, key_nameless, key_valueless, key_got)
