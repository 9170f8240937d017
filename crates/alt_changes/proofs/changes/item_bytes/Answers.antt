-- The kind, the count and the attributes are the bytes of the item.
use Rattle.std.proofs.Common.{rules, ◌≡◌, ◌∙◌, ◌++◌, ◌∷◌, [], ap}
use Rattle.std.specs.Int.{w64, to_be_bytes}
use Rattle.alt_changes.proofs.Written.{item_written}
use Rattle.alt_changes.proofs.changes.item_bytes.Goals as goal

pub returns : goal.returns
returns c =
    let kind : c.push.new.self.items ≡ 10 ∷ [] = search rules in
    c.from_vec.ensures.same ∙ item_written c.args.item.now c.push.new.self.items
    c.put_u64.new.out.items c.put_attributes.new.out.items kind
    (c.in_ok-put_u64.ensures.ok
    ∙ ap (λ n. c.push.new.self.items ++ to_be_bytes w64 n) c.len.ensures.count)
    c.in_ok-put_attributes.ensures
