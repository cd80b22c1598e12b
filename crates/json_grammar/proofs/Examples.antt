-- The parser computes: trees, refused texts, depth 16 and 17.
use mathlib.Core.Path.{◌≡◌, refl}
use mathlib.Core.List.{[], ◌∷◌, map}
use mathlib.Core.Option.{Option, none, some, bind}
use Prim.Native.Nat.{ℕ, zero, suc}
use Prim.Native.String.{String}
use Rattle.text.specs.Test.{◌or◌}
use Rattle.text.specs.String.{bytes}
use Rattle.json_grammar.specs.Json.{Json, jnull, jtrue, jnumber, jstring, jlist, jobject, vnil, vcons, mnil, mcons, values, members}
use Rattle.json_grammar.specs.Grammar.{white, DIGIT, digit1_9, e_or_E, minus_or_plus, unescaped, escapable, HEXDIG}
use Rattle.json_grammar.specs.Parser.{skip, lead, may, read_digits, read_int, read_frac, read_exp, read_number, keep, read_chars, read_sign, read_word, read_scalar, follow, read_items, enter, read_member, read_over, read_value, at_end, parse}

-- the parser on a text, with all that it needs open
parsed : String → Option Json
unfolding parse at_end read_value read_over read_member enter read_items follow read_scalar read_word read_sign read_chars keep read_number read_exp read_frac read_int read_digits may lead skip bind white DIGIT digit1_9 e_or_E minus_or_plus unescaped escapable HEXDIG ◌or◌ values members
parsed s = parse (bytes s)

tree : parsed " {\"a\" : [1, -2.5e+3 ,null],\"\\u00e9\":{}}\n" ≡ some (jobject (mcons (bytes "a") (jlist (vcons jnumber (vcons jnumber (vcons jnull vnil)))) (mcons (bytes "\\u00e9") (jobject mnil) mnil)))
unfolding parsed
tree = refl

-- every escape of the RFC's section 7, and a number for each of its parts
escapes : parsed "\"\\\" \\\\ \\/ \\b \\f \\n \\r \\t \\u00Af\"" ≡ some (jstring (bytes "\\\" \\\\ \\/ \\b \\f \\n \\r \\t \\u00Af"))
unfolding parsed
escapes = refl

numbers : parsed "[0,-0,7,10,-12.50,1e5,1E-05,2.5e+3]" ≡ some (jlist (values (jnumber ∷ jnumber ∷ jnumber ∷ jnumber ∷ jnumber ∷ jnumber ∷ jnumber ∷ jnumber ∷ [])))
unfolding parsed values
numbers = refl

-- the small texts of the RFC's section 13
small : map parsed ("\"Hello world!\"" ∷ "42" ∷ "true" ∷ []) ≡ (some (jstring (bytes "Hello world!")) ∷ some jnumber ∷ some jtrue ∷ [])
unfolding parsed
small = refl

-- refused: a trailing comma, a leading zero, a lone minus, an e alone, a control byte in a string, an open list, two values
refusals : map parsed ("[1,]" ∷ "[01]" ∷ "-" ∷ " e0" ∷ "\"\t\"" ∷ "[" ∷ "1 2" ∷ "" ∷ "{\"a\":1,}" ∷ "1." ∷ "1e" ∷ "nul" ∷ []) ≡ (none ∷ none ∷ none ∷ none ∷ none ∷ none ∷ none ∷ none ∷ none ∷ none ∷ none ∷ none ∷ [])
unfolding parsed
refusals = refl

sixteen : String
sixteen = "[[[[[[[[[[[[[[[[]]]]]]]]]]]]]]]]"

-- lists within lists
nest : ℕ → Json
nest zero = jlist vnil
nest (suc n) = jlist (vcons (nest n) vnil)

deep : parsed sixteen ≡ some (nest 15)
unfolding parsed sixteen nest
deep = refl

seventeen : parsed "[[[[[[[[[[[[[[[[[]]]]]]]]]]]]]]]]]" ≡ none
unfolding parsed
seventeen = refl
