-- A step in which an index is built leaves each table its items, and its changes.
use Rattle.std.proofs.Common.{◌≡◌, refl, sym, ap, ◌∙◌, ℕ, Bool, true, false, cond, is_eq, List, [], ◌∷◌, Option, Some, None, option_map}
use Rattle.std.specs.FinMap.{get-insert}
use Rattle.std.specs.FinMap as finite
use Rattle.std.specs.Option.{option_map_or}
use Rattle.alt_schema.specs.declared.schema.IndexSchema.{IndexSchema}
use Rattle.alt_value.specs.Members.{text_order}
use Rattle.alt_value.proofs.Texts.{text_total}
use Rattle.alt_machine.specs.declared.TheConstants.{BUILT_AT_ONCE}
use Rattle.alt_machine.specs.Building.{built_further, first_building, with_built}
use Rattle.alt_machine.specs.Laws.{BuildsLeaveItems, changes_of, items_of}
use Rattle.alt_machine.specs.Outcomes.{last_state}
use Rattle.alt_machine.specs.State.{State, Table}
use Rattle.alt_machine.proofs.Agreeing.{one_text}
use Rattle.alt_machine.proofs.BuildSteps.{first_there}
use Rattle.alt_machine.proofs.Entries.{each_entry}

-- what is told of a table is told of it where another that is told the same stands for it
same_told : {A : Type 0} (f : Option Table → A) (s : State) (name : List ℕ) (t u : Table)
    → finite.get s.tables name ≡ Some t → f (Some u) ≡ f (Some t) → (q : List ℕ)
    → f (finite.get (finite.insert s.tables name u) q) ≡ f (finite.get s.tables q)
same_told f s name t u there same q =
    ap f (get-insert text_total s.tables name u q) ∙ by (is_eq (text_order q name)) refl
  where
    by : (here : Bool) → is_eq (text_order q name) ≡ here
        → f (cond here (Some u) (finite.get s.tables q)) ≡ f (finite.get s.tables q)
    by true e = same ∙ ap f (sym (ap (finite.get s.tables) (one_text q name e) ∙ there))
    by false e = refl

-- a step in which an index is built leaves each table its items, and its changes
pub builds_leave_items : BuildsLeaveItems
builds_leave_items = λ s q. by s q (first_building (finite.entries s.tables)) refl
  where
    by : (s : State) (q : List ℕ) (o : Option ((List ℕ × Table) × IndexSchema))
        → first_building (finite.entries s.tables) ≡ o
        → (items_of (last_state s (option_map_or
        (λ f. with_built s BUILT_AT_ONCE f.0.0 f.0.1 f.1 ∷ []) o [])) q ≡ items_of s q)
        × (changes_of (last_state s (option_map_or
        (λ f. with_built s BUILT_AT_ONCE f.0.0 f.0.1 f.1 ∷ []) o [])) q ≡ changes_of s q)
    by s q None e = (refl, refl)
    by s q (Some f) e =
        let t : Table = f.0.1 in
        let u : Table = built_further BUILT_AT_ONCE t f.1 in
        let there : finite.get s.tables f.0.0 ≡ Some t =
        first_there (λ e. finite.get s.tables e.0 ≡ Some e.1) (finite.entries s.tables)
        (each_entry (λ k x. finite.get s.tables k ≡ Some x) s.tables (λ k x at. at)) f e in (
          same_told (option_map (λ x. x.items)) s f.0.0 t u there refl q,
          same_told (λ o. option_map_or (λ x. x.changes) o []) s f.0.0 t u there refl q,
        )
