-- The value whose part stands there is put at the name.
use Rattle.std.proofs.Common.{ℕ, drop, sym, ap, ◌∙◌, length}
use Rattle.std.proofs.Math.Seq.{drop-append_seam}
use Rattle.std.proofs.lemmas.List.{drop-drop}
use Rattle.alt_keyorder.specs.KeyBytes.{key_bytes}
use Rattle.alt_value.specs.Item.{with_pair}
use Rattle.alt_views.proofs.indexed.take_value.Goals as goal

pub returns-in_ok-put-in-Some : goal.returns-in_ok-put-in-Some
returns-in_ok-put-in-Some c = record {
  taken = λ t behind of stands.
      let one = rw c.in-Some.is at (c.in_ok-end.ensures.taken t behind of.0 stands) in
      let key = c.args.key.now in (
        c.in_ok-put-in-Some.ensures.ok
            ∙ (λ j. with_pair (c.as_str-name.ensures.same j) (one.0 j) c.args.item.now),
        ap (λ (n : ℕ). drop n key) one.1
            ∙ sym (drop-drop (length (key_bytes t)) c.args.at key)
            ∙ ap (drop (length (key_bytes t))) stands
            ∙ drop-append_seam (key_bytes t) behind,
      );
}
