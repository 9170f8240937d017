use Rattle.std.proofs.Common.{◌≡◌, ◌∷◌, ◌++◌, [], List, ◌∙◌, ap, sym, subst}
use Rattle.std.specs.List.{All}
use Rattle.alt_disk.specs.Files.{file_in}
use Rattle.alt_disk.specs.Memory.{HasBytes, replay, nothing}
use Rattle.alt_disk.specs.declared.made.Made.{Made}
use Rattle.alt_disk.proofs.Replay.{all_push, kept-push}
use Rattle.alt_disk.proofs.history.History.add.Goals as goal

pub invariant_of-self-2 : goal.invariant_of-self-2
invariant_of-self-2 c =
    let d = c.args.self.now in
    let calls = d.calls.items in
    let made = c.args.made in
    let list : c.push_reserved.new.self.items ≡ calls ++ made ∷ [] =
    c.push_reserved.ensures.items ∙ ap (λ (l : List Made). l ++ made ∷ [])
    c.reserve.ensures.items in
    record {
      kept = λ f.
          kept-push calls made (file_in d.files)
          (file_in c.apply.new.files) d.kept c.in_ok-apply.ensures.ok f
          ∙ ap (λ (l : List Made). (replay f nothing l).bytes) (sym list);
      written =
          let all : All HasBytes (calls ++ made ∷ []) =
          all_push HasBytes calls made d.written c.requires in
          subst (All HasBytes) (sym list) all;
    }
