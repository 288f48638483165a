-- `text::line::value` meets its contract.
use mathlib.Core.Bool.{false, true}
use mathlib.Core.Path.{◌∙◌, ◌≡◌, ap, sym}
use Prim.Native.Nat.{◌≤◌, ℕ}
use native.Mathlib.Omega.{arith}
use lib.IntN.{neg_ℤ, pos}
use lib.ListN.{drop}
use Rattle.numbers.proofs.Machine.{Mirror, fits, from_nat, kept, minus, nat_fits}
use Rattle.text.specs.Line.{is_natural, is_negative, natural}
use Rattle.text.proofs.LineLaws.{natural_below, number_bare, number_behind, value_bare, value_behind}
use Rattle.text.proofs.StdLaws.{sign_is}
use Rattle.text.proofs.line.value.Goals as goal
use Rattle.text.proofs.line.value.Goals.{After-natural, After-natural-in-None, In-None, In-Some}

-- behind a minus sign
has_sign : (c : In-Some) → is_negative c.args.word.now ≡ true
has_sign c = sym (sign_is c.args.word.now) ∙ c.in-Some.ensures.cases.0

natural_behind : (c : In-Some) → is_natural 10 (drop 1 c.args.word.now) ≡ true
natural_behind c = sym (number_behind c.args.word.now (has_sign c) 10) ∙ c.requires

module _ (c : After-natural) where
  behind_is : c.natural.result ≡ natural (drop 1 c.args.word.now)
  behind_is = c.natural.ensures ∙ ap natural c.in-Some.ensures.cases.1

  behind_most : c.natural.result ≤ 10_000_000_000
  behind_most = omega (arith, behind_is, natural_below (drop 1 c.args.word.now) (natural_behind (goal.at.After-natural c).In-Some))

  abbrev behind : Mirror
  behind = from_nat behind_most tt

-- with no sign
no_sign : (c : In-None) → is_negative c.args.word.now ≡ false
no_sign c = sym (sign_is c.args.word.now) ∙ c.in-None.ensures.cases

natural_bare : (c : In-None) → is_natural 10 c.args.word.now ≡ true
natural_bare c = sym (number_bare c.args.word.now (no_sign c) 10) ∙ c.requires

module _ (c : After-natural-in-None) where
  bare_most : c.natural-in-None.result ≤ 10_000_000_000
  bare_most = omega (arith, c.natural-in-None.ensures, natural_below c.args.word.now (natural_bare (goal.at.After-natural-in-None c).In-None))

  abbrev bare : Mirror
  bare = from_nat bare_most tt

pub natural-requires : goal.natural-requires
natural-requires c = ap (is_natural 10) c.in-Some.ensures.cases.1 ∙ natural_behind (goal.at.natural-requires c).In-Some

pub overflow_cast-result : goal.overflow_cast-result
overflow_cast-result c = nat_fits (behind_most (goal.at.overflow_cast-result c).After-natural) tt

pub overflow_sub-result : goal.overflow_sub-result
overflow_sub-result c = fits (minus (behind (goal.at.overflow_sub-result c).After-natural)) tt

pub natural-requires-in-None : goal.natural-requires-in-None
natural-requires-in-None c = natural_bare (goal.at.natural-requires-in-None c).In-None

pub overflow_cast-result-in-None : goal.overflow_cast-result-in-None
overflow_cast-result-in-None c = nat_fits (bare_most (goal.at.overflow_cast-result-in-None c).After-natural-in-None) tt

pub returns-in-Some : goal.returns-in-Some
returns-in-Some c =
    let k = (goal.at.returns-in-Some c).After-natural in
    (kept (minus (behind k)) tt).same ∙ ap (λ (n : ℕ). neg_ℤ (pos n)) (behind_is k) ∙ sym (value_behind c.args.word.now (has_sign (goal.at.After-natural k).In-Some))

pub returns-in-None : goal.returns-in-None
returns-in-None c =
    let k = (goal.at.returns-in-None c).After-natural-in-None in
    (bare k).same ∙ ap pos c.natural-in-None.ensures ∙ sym (value_bare c.args.word.now (no_sign (goal.at.After-natural-in-None k).In-None))
