-- `request::start::moved` meets its contract.
use borrow.Author.Rules.{rules}
use mir.Syntax.{w64}
use mir.Val.{SFits}
use Rattle.numbers.proofs.Machine.{Mirror, ◌⊕◌, any, bounded, kept}
use Rattle.request.proofs.start.moved.Goals as goal
use Rattle.request.proofs.start.moved.Goals.{Start}

module _ (s : Start) where
  ut_fits : SFits w64 s.args.start.ut
  ut_fits = search rules

  tt_fits : SFits w64 s.args.start.tt
  tt_fits = search rules

  abbrev ut : Mirror
  ut = bounded (any ut_fits ⊕ any s.ranges.units) s.requires.ut_near

  abbrev tt₀ : Mirror
  tt₀ = bounded (any tt_fits ⊕ any s.ranges.units) s.requires.tt_near

pub returns : goal.returns
returns c =
    let s = (goal.at.returns c).Start in
    λ i. record { ut = (kept (ut s) tt).same i; tt = (kept (tt₀ s) tt).same i }
