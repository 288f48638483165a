-- `lookup::bears` meets its contract.
use mathlib.Core.Bool.{◌&&◌}
use mathlib.Core.Path.{◌∙◌, ◌≡◌, ap, ap₂}
use borrow.Author.Rules.{rules}
use lib.IntN.{ℤ}
use mir.Syntax.{w64}
use mir.Val.{SFits, of_z, to_z}
use mir.ValLaws.{to_z-of_z}
use Rattle.std.specs.Ordering.{int_eq}
use Rattle.strip.proofs.CheckLaws.{int_same}
use Rattle.strip.specs.Checks.{same}
use Rattle.strip_reader.specs.Lookup.{bears}
use Rattle.strip_reader.proofs.lookup.bears.Goals as goal

-- a test of two numbers, one of which is as the machine holds it
told : (a b : ℤ) → SFits w64 a → int_eq (to_z w64 (of_z w64 a)) b ≡ same a b
told a b f = ap (λ (z : ℤ). int_eq z b) (to_z-of_z w64 a f) ∙ int_same a b

pub returns : goal.returns
unfolding bears
returns c =
    let header = c.args.header in
    let date = c.args.date in
    let year = told header.year date.year (search rules) in
    let month = told header.month date.month (search rules) in
    let day = told header.day date.day (search rules) in
    c.eq.ensures ∙ ap₂ ◌&&◌ year (ap₂ ◌&&◌ month day)
