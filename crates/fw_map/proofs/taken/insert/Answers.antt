use Rattle.std.proofs.Common.{◌≡◌, ◌≤◌, true, false, ltb, length, sym, subst, arith, rules}
use Rattle.std.specs.List.Sorted.{IsPartitionPoint}
use Rattle.std.proofs.lemmas.List.Sorted.{IsPartitionPoint-from_clause, IsPartitionedBy-ltb}
use Rattle.fw_map.proofs.TakenLemmas.{takes_also, sorted_with}
use Rattle.fw_map.specs.Taken.{AreSorted}
use Rattle.fw_map.specs.declared.run.Run.{Run}
use Rattle.fw_map.proofs.taken.insert.Goals as goal

pub returns-clause-sorted : goal.returns-clause-sorted
returns-clause-sorted c =
    let parted = IsPartitionedBy-ltb (λ (run : Run). run.first) c.deref.result.now c.args.run.first (subst AreSorted (sym c.deref.ensures.value) c.requires) in
    let point = IsPartitionPoint-from_clause (λ (run : Run). ltb run.first c.args.run.first) c.deref.result.now c.partition_point-place.result
    c.partition_point-place.ensures.partitioned parted (λ a r q k. search rules) in
    let within : c.partition_point-place.result ≤ length c.args.runs.now.items = omega (arith, c.partition_point-place.ensures.bound, c.deref.ensures.len) in
    subst AreSorted (sym c.in_ok-insert.ensures.items) (sorted_with c.args.runs.now.items c.partition_point-place.result c.args.run c.requires within
    (subst (λ runs. IsPartitionPoint (λ other. ltb other.first c.args.run.first ≡ true) (λ other. ltb other.first c.args.run.first ≡ false) runs c.partition_point-place.result)
    c.deref.ensures.value point))

pub returns-clause-also : goal.returns-clause-also
returns-clause-also c = rw (c.in_ok-insert.ensures.items) (takes_also c.args.runs.now.items c.partition_point-place.result c.args.run)
