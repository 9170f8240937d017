use Rattle.std.specs.Prelude.{⊤}
use Rattle.alt_gatelog.proofs.OneList.{one_list, one_form, damaged_no_log}
use Rattle.alt_gatelog.proofs.Elsewhere.{in_each_image, stays, stands_quiet}
use Rattle.alt_gatelog.proofs.laws.log_laws.Goals as goal

pub returns : goal.returns
returns c = record {
  one_list = one_list;
  one_form = one_form;
  damaged = damaged_no_log;
  in_each_image = in_each_image;
  elsewhere = λ a b log entries f stands run other. stays a b log entries f
      (λ _ _. ⊤) stands run other;
  quiet = stands_quiet;
}
