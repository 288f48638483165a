-- Every case by hand holds, in one statement over the list.
use mathlib.Core.Path.{refl}
use Rattle.arithmetic.specs.Each.{more, none}
use Rattle.text.specs.Cases.{CasesHold, bytes}
use Rattle.text.specs.Decimal.{digits, last_digits, padded, signed, with_point}
use Rattle.text.specs.Line.{all, is_natural, is_negative, is_number, line_numbers, longer, numbers, value, value_after, words}

pub cases_hold : CasesHold
unfolding bytes digits last_digits padded signed with_point all is_natural is_negative is_number line_numbers longer numbers value value_after words
cases_hold =
    more refl (more refl (more refl (more refl (more refl (more refl (more refl (more refl
    (more refl (more refl (more refl (more refl (more refl (more refl (more refl (more refl
    (more refl (more refl (more refl (more refl (more refl (more refl none)))))))))))))))))))))
