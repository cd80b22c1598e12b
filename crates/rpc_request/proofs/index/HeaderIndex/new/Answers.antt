-- `HeaderIndex::new` makes an index.
use Rattle.std.proofs.Common.{◌≡◌, length, arith, refl, length-set}
use Rattle.rpc_request.specs.Index.{bucket_count}
use Rattle.rpc_request.proofs.Lines.{headers_short}
use Rattle.rpc_request.proofs.Chains.{indexing_start, colon_inside, bucket_inside, line_indexed, indexing_done}
use Rattle.rpc_request.proofs.index.HeaderIndex.new.Goals as goal

pub loop-i-init : goal.loop-i-init
loop-i-init c = record { indexing = indexing_start _ _ _ _ c.requires; links = refl; bucket = c.place-b.ensures }

pub byte_from-e-requires : goal.byte_from-e-requires
byte_from-e-requires c = omega (arith, colon_inside c.loop-i-test.true c.byte_from-c.ensures c.loop-i.invariant.indexing)

pub offset_bounds-last-b : goal.offset_bounds-last-b
offset_bounds-last-b c = omega (arith, bucket_inside _ _ c.loop-i.last _ c.next_bucket-b.ensures c.loop-i.invariant.indexing.buckets)

pub bounds-last-b : goal.bounds-last-b
bounds-last-b c = bucket_inside _ _ _ _ c.next_bucket-b.ensures c.loop-i.invariant.indexing.buckets

pub overflow_cast-last : goal.overflow_cast-last
overflow_cast-last c = omega (arith, headers_short _ c.requires.good)

pub offset_bounds-last-b-in-loop-i : goal.offset_bounds-last-b-in-loop-i
offset_bounds-last-b-in-loop-i c = omega (arith, bucket_inside _ _ c.loop-i.last _ c.next_bucket-b.ensures c.loop-i.invariant.indexing.buckets)

pub bounds-last-b-in-loop-i : goal.bounds-last-b-in-loop-i
bounds-last-b-in-loop-i c = bucket_inside _ _ _ _ c.next_bucket-b.ensures c.loop-i.invariant.indexing.buckets

pub loop-i-preserved : goal.loop-i-preserved
loop-i-preserved c = record {
  indexing = line_indexed c.loop-i-test.true c.byte_from-c.ensures c.loop-i.invariant.indexing c.byte_from-e.ensures
      (let e : length c.loop-i.last ≡ bucket_count = c.loop-i.invariant.indexing.buckets in rw e at (bucket_inside _ _ c.loop-i.last _ c.next_bucket-b.ensures e)) c.next_bucket-b.ensures;
  links = simp length-set c.loop-i.invariant.links;
  bucket = c.next_bucket-b.ensures;
}

pub invariant_of-result : goal.invariant_of-result
invariant_of-result c = indexing_done _ _ _ _ _ c.requires.good c.loop-i.invariant.indexing c.loop-i-test.false
