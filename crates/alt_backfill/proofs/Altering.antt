-- The description that a table gets: it may take the place of its own, and it is as a description has to be.
use Rattle.std.proofs.Common.{◌≡◌, refl, sym, ap, ◌∙◌, ◌+◌, ℕ, true, false, not, List, [], ◌∷◌, map, length, Option, Some, None, is_some, inl, inr}
use Rattle.std.specs.Prelude.{◌&&◌, codes, if◌then◌else◌}
use Rattle.std.specs.List.{filter, list_all, list_any}
use Rattle.std.proofs.lemmas.Bool.{le-ltb}
use Rattle.std.specs.Cmp.{first_so, second_so}
use Rattle.serde_json.specs.Data.{Members}
use Rattle.alt_backfill.specs.private.Asked.{first_of}
use Rattle.alt_backfill.proofs.Shapes.{none_acts}
use Rattle.alt_backfill.proofs.Tests.{shape_kept}
use Rattle.alt_base.proofs.Lists.{length-filter}
use Rattle.alt_machine.specs.Body.{of_shape}
use Rattle.alt_machine.specs.Building.{building_in}
use Rattle.alt_machine.specs.Members.{may_name}
use Rattle.alt_machine.specs.Ops.UpdateTable.{acts, altered, altered_by, are_keys_good, are_single, asked_at, changes, comes_early, coming, family_after, going, changed_index_names_fit, of_body, of_indexes, wanted_for}
use Rattle.alt_machine.specs.Outcomes.{a_family, a_number}
use Rattle.alt_machine.specs.Refusals.{first_answer}
use Rattle.alt_machine.specs.Valid.{IsMade}
use Rattle.alt_machine.proofs.Added.{made_added}
use Rattle.alt_machine.proofs.Removed.{made_removed}
use Rattle.alt_machine.proofs.Tests.{if_fails, rest_none, unless_holds}
use Rattle.alt_schema.specs.Altered.{definitions_fit, indexes_fit_with, is_none_of, keys_fit_with, without_index}
use Rattle.alt_schema.specs.Indexes.{is_named}
use Rattle.alt_schema.specs.Rules.{is_name}
use Rattle.alt_schema.specs.Stated.{definitions_of, index_in, text_of}
use Rattle.alt_schema.specs.declared.schema.KeyAttr.{KeyAttr}
use Rattle.alt_schema.specs.declared.schema.TableSchema.{TableSchema}
use Rattle.alt_schema.specs.declared.stated.StatedIndex.{StatedIndex}
use Rattle.alt_shape.specs.Bodies as bodies
use Rattle.alt_shape.specs.Refusals.{bad_index, bad_index_update, bad_key_schema, bad_name, no_such_index}
use Rattle.alt_request.specs.TablesAltering.{MayAlter, alter_wants, family_left, has_more}
use Rattle.alt_request.proofs.TablesAlterLaws.{is_longer}

-- a description with an index less has no more of them
isnt_longer : (d : TableSchema) (name : List ℕ) → has_more d (without_index d name) ≡ false
isnt_longer d name =
    le-ltb (length d.globals) (length (filter (λ i. not (is_named name i)) d.globals))
    (length-filter (λ i. not (is_named name i)) d.globals)

-- what comes or goes
data Alters (cs : List StatedIndex) (ns : List (List ℕ)) : Type 0 where
  comes : (i : StatedIndex) (is : List StatedIndex) → cs ≡ i ∷ is → Alters cs ns
  goes : (name : List ℕ) (names : List (List ℕ)) → cs ≡ [] → ns ≡ name ∷ names → Alters cs ns

-- what an index that comes, or one that goes, makes of a description
module _ (d : TableSchema) (more : List KeyAttr) (family : ℕ) where
  may_alter : (cs : List StatedIndex) (ns : List (List ℕ)) → Alters cs ns
      → MayAlter family d (altered_by d more family cs ns)
  may_alter cs ns (comes i is e) = inl (record {
    definitions = more;
    index = i;
    is = ap (λ x. altered_by d more family x ns) e;
  })
  may_alter cs ns (goes name names e f) = inr (record {
    name = name;
    is = λ j. altered_by d more family (e j) (f j);
  })

  wants_alike : (cs : List StatedIndex) (ns : List (List ℕ)) → Alters cs ns
      → alter_wants d (altered_by d more family cs ns) ≡ wanted_for cs
  wants_alike cs ns (comes i is e) =
      ap (λ x. alter_wants d (altered_by d more family x ns)) e
      ∙ ap (λ b. if b then a_family else a_number) (is_longer d more family i)
      ∙ ap wanted_for (sym e)
  wants_alike cs ns (goes name names e f) =
      (λ j. alter_wants d (altered_by d more family (e j) (f j)))
      ∙ ap (λ b. if b then a_family else a_number) (isnt_longer d name)
      ∙ ap wanted_for (sym e)

  left_alike : (cs : List StatedIndex) (ns : List (List ℕ)) → Alters cs ns
      → family_left family d (altered_by d more family cs ns) ≡ family_after family cs
  left_alike cs ns (comes i is e) =
      ap (λ x. family_left family d (altered_by d more family x ns)) e
      ∙ ap (λ b. if b then family + 1 else family) (is_longer d more family i)
      ∙ ap (family_after family) (sym e)
  left_alike cs ns (goes name names e f) =
      (λ j. family_left family d (altered_by d more family (e j) (f j)))
      ∙ ap (λ b. if b then family + 1 else family) (isnt_longer d name)
      ∙ ap (family_after family) (sym e)

  -- the name stays
  name_stays : (cs : List StatedIndex) (ns : List (List ℕ))
      → (altered_by d more family cs ns).name ≡ d.name
  name_stays (i ∷ is) ns = refl
  name_stays [] (name ∷ names) = refl
  name_stays [] [] = refl

  -- nothing is found
  none_is : {A : Type 0} (o : Option A) → is_some o ≡ false → o ≡ None
  none_is None e = refl
  none_is (Some x) e = absurd (let f : ⊥ = cc in f)

  made_alike : IsMade d → (cs : List StatedIndex) (ns : List (List ℕ))
      → list_all (λ i. is_name i.name) cs ≡ true → list_all (keys_fit_with d more) cs ≡ true
      → list_all (indexes_fit_with d more) cs ≡ true → comes_early d cs ≡ false
      → IsMade (altered_by d more family cs ns)
  made_alike made (i ∷ is) ns named good fit early = made_added d more family i made
      (first_so (keys_fit_with d more i) _ good) (first_so (indexes_fit_with d more i) _ fit)
      (first_so (is_name i.name) _ named) (none_is (building_in d) early)
  made_alike made [] (gone ∷ ns) named good fit early = made_removed d gone made
  made_alike made [] [] named good fit early = made

module _ (d : TableSchema) (ms : Members) (family : ℕ) where
  -- the name stays
  pub altered_name : (altered d ms family).name ≡ d.name
  altered_name = name_stays d (definitions_of ms) family (coming ms) (going ms)

  module _ (body : first_answer (of_body ms) ≡ None) where
    -- a body whose names are good
    named : list_all (λ (i : StatedIndex). is_name i.name) (coming ms) ≡ true
    named =
        let shaped = rest_none (of_shape (bodies.update_table ms)) _ body in
        let single = unless_holds (are_single ms) bad_index_update _ shaped.1 in
        first_so (list_all (λ (i : StatedIndex). is_name i.name) (coming ms)) _
        (second_so (may_name ms (codes "TableName")) _
        (unless_holds (may_name ms (codes "TableName") && changed_index_names_fit ms) bad_name [] single.1).0)

    -- it is made as a description has to be, where the table's is
    pub altered_made : first_answer (of_indexes d ms) ≡ None → IsMade d → IsMade (altered d ms family)
    altered_made free made =
        let gone = (if_fails (list_any (is_none_of d) (going ms)) no_such_index _ free).1 in
        let keys = unless_holds (are_keys_good d ms) bad_key_schema _ gone in
        let fit = unless_holds (list_all (indexes_fit_with d (definitions_of ms)) (coming ms)) bad_index _
        keys.1 in
        let early = if_fails (comes_early d (coming ms)) bad_index_update [] fit.1 in
        made_alike d (definitions_of ms) family made (coming ms) (going ms) named
        (second_so (definitions_fit d (altered d ms 0) (definitions_of ms)) _ keys.0) fit.0 early.0

    module _ (some : list_any acts (changes ms) ≡ true) where
      does : Alters (coming ms) (going ms)
      does = by (asked_at (codes "Create") ms) (asked_at (codes "Delete") ms) refl refl
        where
          by : (cs ns : List Members) → asked_at (codes "Create") ms ≡ cs
              → asked_at (codes "Delete") ms ≡ ns → Alters (coming ms) (going ms)
          by (c ∷ cs) ns e f = comes (index_in c) (map index_in cs) (ap (map index_in) e)
          by [] (n ∷ ns) e f = goes (text_of (codes "IndexName") n)
              (map (text_of (codes "IndexName")) ns) (ap (map index_in) e)
              (ap (map (text_of (codes "IndexName"))) f)
          by [] [] e f = absurd (let none : true ≡ false = sym some
              ∙ none_acts ms (shape_kept ms body) (ap first_of e) (ap first_of f) in cc none)

      -- it may take the place of the table's
      pub altered_may : MayAlter family d (altered d ms family)
      altered_may = may_alter d (definitions_of ms) family (coming ms) (going ms) does

      -- it wants what the request does
      pub altered_wants : alter_wants d (altered d ms family) ≡ wanted_for (coming ms)
      altered_wants = wants_alike d (definitions_of ms) family (coming ms) (going ms) does

      -- and the next family is then what it is after the request
      pub altered_left : family_left family d (altered d ms family) ≡ family_after family (coming ms)
      altered_left = left_alike d (definitions_of ms) family (coming ms) (going ms) does
