use Rattle.std.proofs.Common.{◌≡◌, ◌+◌, cond, map, ltb, get_or}
use Rattle.std.specs.List.{range_with_len}
use Rattle.sharing.specs.Rules.{rank}
use Rattle.sharing.proofs.largest_remainder.serve.Given as goal

abbrev pub invariant-loop-k : goal.invariant-loop-k
invariant-loop-k l = l.shares.items ≡ map (λ k. get_or l.floors k 0 + cond (ltb (rank l.rests k) l.left) 1 0) (range_with_len 0 l.k)
