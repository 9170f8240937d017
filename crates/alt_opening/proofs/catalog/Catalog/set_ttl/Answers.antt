-- The description of the name gives way to one with that time to live.
use Rattle.std.proofs.Common.{sym, ap, subst, ◌∙◌, ℕ, List, Some, Option, set}
use Rattle.std.proofs.lemmas.List.Elements.{All-same}
use Rattle.std.specs.FinMap as map
use Rattle.std.specs.Option.{option_map_or}
use Rattle.alt_machine.specs.State.{Texts}
use Rattle.alt_schema.specs.declared.schema.TableSchema.{TableSchema}
use Rattle.alt_tablerows.specs.Families.{HasOwnFamilies}
use Rattle.alt_opening.proofs.Listed.{All-set, get-found, get-missed, name_of, replaced, retimed}
use Rattle.alt_opening.proofs.catalog.Catalog.set_ttl.Goals as goal

-- the catalog with another time to live of the table
abbrev timed : List ℕ → Option (List ℕ) → Texts TableSchema → Option TableSchema → Texts TableSchema
timed name ttl m o = option_map_or (λ d. map.insert m name (record d { ttl = ttl })) o m

pub invariant_of-self : goal.invariant_of-self
invariant_of-self c =
    let (d, at, is) = retimed c.args.name.now c.self.inside.entries.items c.in-Ok.i
    c.self.invariant.0 c.in-Ok.ensures.within c.in-Ok.ensures.named
    c.give_time.new.entries.items c.args.ttl c.give_time.ensures in (
      (replaced c.args.name.now c.self.inside.entries.items c.in-Ok.i c.self.invariant.0
          c.in-Ok.ensures.within c.in-Ok.ensures.named _ (record d { ttl = c.args.ttl }) is
          (ap name_of (sym at) ∙ c.in-Ok.ensures.named d)).0,
      All-same HasOwnFamilies _ (set c.self.inside.entries.items c.in-Ok.i
          (record d { ttl = c.args.ttl })) is
          (All-set HasOwnFamilies c.self.inside.entries.items c.in-Ok.i
          (record d { ttl = c.args.ttl }) c.self.invariant.1
          (subst HasOwnFamilies at (c.self.invariant.1 c.in-Ok.i d c.in-Ok.ensures.within))),
    )

pub returns-in-Ok : goal.returns-in-Ok
returns-in-Ok c = record {
  timed =
      let (d, at, is) = retimed c.args.name.now c.self.inside.entries.items c.in-Ok.i
      c.self.invariant.0 c.in-Ok.ensures.within c.in-Ok.ensures.named
      c.give_time.new.entries.items c.args.ttl c.give_time.ensures in
      (replaced c.args.name.now c.self.inside.entries.items c.in-Ok.i c.self.invariant.0
      c.in-Ok.ensures.within c.in-Ok.ensures.named _ (record d { ttl = c.args.ttl }) is
      (ap name_of (sym at) ∙ c.in-Ok.ensures.named d)).1
      ∙ ap (λ (m : Texts TableSchema). map.insert m c.args.name.now (record d { ttl = c.args.ttl }))
      c.self.view_is
      ∙ ap (timed c.args.name.now c.args.ttl c.args.self.now)
      (sym (ap (λ m. map.get m c.args.name.now) (sym c.self.view_is)
      ∙ get-found c.args.name.now c.self.inside.entries.items c.in-Ok.i c.self.invariant.0
      c.in-Ok.ensures.within c.in-Ok.ensures.named d ∙ ap Some at));
}

pub returns-in-Err : goal.returns-in-Err
returns-in-Err c = record {
  timed = ap (timed c.args.name.now c.args.ttl c.args.self.now)
      (sym (ap (λ m. map.get m c.args.name.now) (sym c.self.view_is)
      ∙ get-missed c.args.name.now c.self.inside.entries.items c.in-Err.field-0
      c.self.invariant.0 c.in-Err.ensures.goes c.in-Err.ensures.apart));
}
