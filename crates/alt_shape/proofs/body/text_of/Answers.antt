-- The text is that of the tokens of the object.
use Rattle.std.proofs.Common.{◌≡◌, ap, ◌∙◌, ◌++◌, ◌∷◌, []}
use Rattle.std.specs.List.{flat_map}
use Rattle.serde_json.specs.Data.{object}
use Rattle.serde_json.specs.Written.{outline}
use Rattle.serde_json.proofs.Texts.{print-outline}
use Rattle.json.specs.Print.{print}
use Rattle.json.specs.Token as token
use Rattle.json.specs.Tree.{json_tokens}
use Rattle.alt_shape.specs.Body.{members_json}
use Rattle.alt_shape.specs.Pieces.{member_tokens}
use Rattle.alt_shape.proofs.Pieces.{object_written}
use Rattle.alt_shape.proofs.body.text_of.Goals as goal

pub returns : goal.returns
returns c =
    let tokens : c.end_object.new.self.tokens ≡ json_tokens (outline (object (members_json c.args.members.now))) =
    c.in_ok-end_object.ensures.ok
    ∙ ap (λ ts. ts ++ token.end_object ∷ []) (c.in_ok-write_members.ensures.written
    ∙ ap (λ ts. ts ++ flat_map member_tokens c.args.members.now)
    (c.in_ok-begin_object.ensures.ok ∙ ap (λ ts. ts ++ token.begin_object ∷ []) c.new-out.ensures.tokens))
    ∙ object_written c.args.members.now in
    let before : c.end_object.new.self.before ≡ [] =
    c.end_object.ensures.room.0 ∙ c.write_members.ensures.before
    ∙ c.begin_object.ensures.room.0 ∙ c.new-out.ensures.before
    ∙ c.in_ok-with_capacity.ensures.items in
    ap (λ v. v.items) c.in-Ok.ensures.ok ∙ c.into_inner.ensures.items
    ∙ (λ i. before i ++ print (tokens i))
    ∙ print-outline (object (members_json c.args.members.now))
