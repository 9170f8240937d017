use Rattle.std.proofs.Common.{◌≡◌, ◌∷◌, ◌++◌, [], List, ◌∙◌, ap, sym, subst}
use Rattle.std.specs.List.{All}
use Rattle.alt_disk.specs.Files.{file_in}
use Rattle.alt_disk.specs.Memory.{HasBytes, replay, nothing}
use Rattle.alt_disk.specs.declared.made.Made.{Made}
use Rattle.alt_disk.proofs.Replay.{all_push, kept-leaves}
use Rattle.alt_disk.proofs.history.History.add_reserved.Goals as goal

pub invariant_of-self : goal.invariant_of-self
invariant_of-self c =
    let d = c.args.self.now in
    let calls = d.calls.items in
    let made = c.args.made in
    let list : c.push_reserved.new.self.items ≡ calls ++ made ∷ [] =
    c.push_reserved.ensures.items in
    record {
      kept = λ f.
          kept-leaves calls made (file_in d.files) d.kept c.requires.reads f
          ∙ ap (λ (l : List Made). (replay f nothing l).bytes) (sym list);
      written =
          let all : All HasBytes (calls ++ made ∷ []) =
          all_push HasBytes calls made d.written c.requires.bytes in
          subst (All HasBytes) (sym list) all;
    }
