-- `text::line::short_numbers` meets its contract.
use Rattle.std.proofs.Common.{◌∙◌, ap, rules, tests, eqb, take}
use Rattle.std.proofs.lemmas.Iterator.{YieldsList-from_take}
use Rattle.std.proofs.lemmas.Iterator.Consumers.{YieldsList-at}
use Rattle.std.proofs.lemmas.Iterator.Search.{all_from_yields_List}
use Rattle.std.proofs.lemmas.Iterator.Splits.{YieldsList-from_slice_split}
use Rattle.std.specs.List.{slice_split}
use Rattle.text.specs.Line.{is_number, short_numbers, space, all}
use Rattle.text.proofs.StdLaws.{all_is, words_are}
use Rattle.text.proofs.line.short_numbers.Goals as goal

pub returns : goal.returns
unfolding short_numbers
returns c =
    let line = c.args.line.now in
    let count = c.args.count in
    all_from_yields_List (is_number 9) _ _ _ c.all.ensures.ran
    (YieldsList-from_take count (YieldsList-at c.take.ensures.source (YieldsList-from_slice_split _ (λ b. eqb b space) line c.split.ensures.rest c.split.ensures.done c.split.ensures.closure (λ x b q k. search (rules, tests)))) c.take.ensures.count)
    (λ x b q k. search (rules, tests))
    ∙ all_is (is_number 9) (take count (slice_split (λ b. eqb b space) line))
    ∙ ap (λ list. all (is_number 9) (take count list)) (words_are line)
