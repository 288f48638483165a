-- `sum_terms::instant::powers_at` meets its contract.
use lib.IntN.{pos}
use Rattle.numbers.proofs.Machine.{Mirror, ◌⊗◌, arg, fits, floor_gave, kept, lit}
use Rattle.sum_rules.specs.Instant.{century, p2, p3, p4, u}
use Rattle.sum_terms.proofs.instant.powers_at.Goals as goal
use Rattle.sum_terms.proofs.instant.powers_at.Goals.{After-floor_div-p2, After-floor_div-p3, After-floor_div-p4, After-floor_div-u, Start}

abbrev n_mirror : Start → Mirror
n_mirror s = arg s.ranges.n s.requires

abbrev scaled : Start → Mirror
scaled s = lit (pos 1_000_000) ⊗ n_mirror s

abbrev u_mirror : After-floor_div-u → Mirror
u_mirror c = floor_gave (kept (scaled (goal.at.After-floor_div-u c).Start) tt) century c.floor_div-u.type_inv c.floor_div-u.ensures

abbrev p2_mirror : After-floor_div-p2 → Mirror
p2_mirror c = floor_gave (kept (u_mirror (goal.at.After-floor_div-p2 c).After-floor_div-u ⊗ u_mirror (goal.at.After-floor_div-p2 c).After-floor_div-u) tt) 1_000_000 c.floor_div-p2.type_inv c.floor_div-p2.ensures

abbrev p3_mirror : After-floor_div-p3 → Mirror
p3_mirror c = floor_gave (kept (p2_mirror (goal.at.After-floor_div-p3 c).After-floor_div-p2 ⊗ u_mirror (goal.at.After-floor_div-p3 c).After-floor_div-u) tt) 1_000_000 c.floor_div-p3.type_inv c.floor_div-p3.ensures

abbrev p4_mirror : After-floor_div-p4 → Mirror
p4_mirror c = floor_gave (kept (p2_mirror (goal.at.After-floor_div-p4 c).After-floor_div-p2 ⊗ p2_mirror (goal.at.After-floor_div-p4 c).After-floor_div-p2) tt) 1_000_000 c.floor_div-p4.type_inv c.floor_div-p4.ensures

pub returns : goal.returns
unfolding u p2 p3 p4
returns c = λ i. record {
  n = (n_mirror (goal.at.returns c).Start).same i;
  u = (u_mirror (goal.at.returns c).After-floor_div-u).same i;
  p2 = (p2_mirror (goal.at.returns c).After-floor_div-p2).same i;
  p3 = (p3_mirror (goal.at.returns c).After-floor_div-p3).same i;
  p4 = (p4_mirror (goal.at.returns c).After-floor_div-p4).same i;
}

pub overflow_mul-u : goal.overflow_mul-u
overflow_mul-u c = fits (u_mirror (goal.at.overflow_mul-u c).After-floor_div-u ⊗ u_mirror (goal.at.overflow_mul-u c).After-floor_div-u) tt

pub overflow_mul-p2 : goal.overflow_mul-p2
overflow_mul-p2 c = fits (p2_mirror (goal.at.overflow_mul-p2 c).After-floor_div-p2 ⊗ u_mirror (goal.at.overflow_mul-p2 c).After-floor_div-u) tt

pub overflow_mul-p2-2 : goal.overflow_mul-p2-2
overflow_mul-p2-2 c = fits (p2_mirror (goal.at.overflow_mul-p2-2 c).After-floor_div-p2 ⊗ p2_mirror (goal.at.overflow_mul-p2-2 c).After-floor_div-p2) tt
