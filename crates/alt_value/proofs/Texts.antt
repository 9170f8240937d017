-- The order of texts.
use Rattle.std.specs.Cmp.{IsTotalOrder}
use Rattle.std.specs.Cmp.Lexicographic.{nat_list_cmp_total}
use Rattle.std.specs.FinMap.{IsAntisymmetric, slice_cmp-IsAntisymmetric, nat_cmp-IsAntisymmetric}
use Rattle.alt_value.specs.Members.{text_order}

-- texts are ordered totally
pub text_total : IsTotalOrder text_order
text_total = nat_list_cmp_total

-- texts that tie are one text
pub text_apart : IsAntisymmetric text_order
text_apart = slice_cmp-IsAntisymmetric nat_cmp-IsAntisymmetric
