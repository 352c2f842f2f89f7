use Rattle.std.proofs.Common.{◌≡◌, ℕ, List, ◌||◌, drop}
use Rattle.std.specs.BTreeSet.{contains}
use Rattle.std.specs.Cmp.Lexicographic.{slice_cmp}
use Rattle.std.specs.Ordering.{nat_cmp}
use Rattle.holdings.specs.LocalList.{names}
use Rattle.holdings.proofs.local_list.named_keys.Given as goal

abbrev pub invariant-loop-entry : goal.invariant-loop-entry
invariant-loop-entry l = (q : List ℕ) → contains (slice_cmp nat_cmp) l.keys q || names (drop l.entry-index l.sent) q ≡ names l.sent q
