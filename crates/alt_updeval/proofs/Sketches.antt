-- A sketch of an update: one edit more, and what it says of the item after it.
use Rattle.std.proofs.Common.{◌≡◌, refl, sym, ap, subst, ◌∙◌, ℕ, suc, ◌+◌, ◌<◌, Bool, true, ◌&&◌, List, [], ◌∷◌, ◌++◌, drop, drop-cons, add-one, length, get_or, Ok, Err}
use Rattle.std.proofs.lemmas.Bool.{and_parts}
use Rattle.std.specs.Prelude.{Result}
use Rattle.alt_expr.specs.Located.{View}
use Rattle.alt_expr.specs.Updated.{Edit, ActionFault, ◌>>=◌, edit, edits, under, place_after, updated}
use Rattle.alt_expr.specs.UpdateLanguage.{begin_with_names}
use Rattle.alt_expr.specs.declared.path.PathPart.TheVariants.{Name}
use Rattle.alt_expr.specs.declared.update.Action.{Action}
use Rattle.alt_updeval.specs.Changes.{changed_by}
use Rattle.alt_updeval.specs.Shown.{AreSketched}
use Rattle.alt_updeval.specs.Sketched.{IsSketch}
use Rattle.alt_updeval.specs.StandsIn.{StandsInIf, EachOfTwo, StandsInEdit}
use Rattle.alt_updeval.specs.declared.sketch.Sketch.{Sketch}
use Rattle.alt_updeval.proofs.All.{known, known-none, edits_more, begins_more}
use Rattle.alt_updeval.proofs.StandIns.{each-append, under_in, after_in}

-- The edits of the actions so far, some of which others stand in for.
pub record SketchedSoFar (item : View) (actions : List Action) (i : ℕ) (es : List Edit)
    (whole : Bool) : Type 0 where
  pub all : List Edit
  pub told : edits item actions ≡ known all (edits item (drop i actions))
  pub stand_in : EachOfTwo StandsInEdit es all
  pub same : whole ≡ true → es ≡ all
  pub begins : begin_with_names (drop i actions) ≡ true

-- none at first
pub sketched-none : (item : View) (actions : List Action) (es : List Edit)
    → begin_with_names actions ≡ true → es ≡ [] → SketchedSoFar item actions 0 es true
sketched-none item actions es begins none = record {
  all = [];
  told = known-none (edits item actions);
  stand_in = subst (λ (fs : List Edit). EachOfTwo StandsInEdit fs []) (sym none) tt;
  same = λ e. none;
  begins = begins;
}

-- one more
pub sketched-more : (item : View) (actions : List Action) (i : ℕ) (a : Action) (es fs : List Edit)
    (f e : Edit) (whole same : Bool) → i < length actions → a ≡ get_or actions i a
    → edit item a ≡ Ok e → StandsInEdit f e → (same ≡ true → f ≡ e) → fs ≡ es ++ f ∷ []
    → SketchedSoFar item actions i es whole
    → SketchedSoFar item actions (i + 1) fs (whole && same)
sketched-more item actions i a es fs f e whole same lt is done here alike pushed so_far = record {
  all = so_far.all ++ e ∷ [];
  told = edits_more item actions i a so_far.all e lt is done so_far.told;
  stand_in = subst (λ (gs : List Edit). EachOfTwo StandsInEdit gs (so_far.all ++ e ∷ [])) (sym pushed)
      (each-append StandsInEdit es so_far.all (f ∷ []) (e ∷ []) so_far.stand_in (here, tt));
  same = λ h.
      let both = and_parts whole same h in
      pushed ∙ (λ j. so_far.same both.0 j ++ alike both.1 j ∷ []);
  begins = begins_more actions i a lt so_far.begins;
}

-- the first action that is refused
pub sketched-refused : (item : View) (actions : List Action) (i : ℕ) (a : Action) (es : List Edit)
    (whole : Bool) (fault : ActionFault) → i < length actions → a ≡ get_or actions i a
    → edit item a ≡ Err fault → SketchedSoFar item actions i es whole
    → edits item actions ≡ Err fault
sketched-refused item actions i a es whole fault lt is refused so_far =
    let rest = drop (i + 1) actions in
    let here : drop i actions ≡ a ∷ rest = drop-cons actions i a lt
    ∙ ap (λ x. x ∷ drop (suc i) actions) (sym is)
    ∙ ap (λ n. a ∷ drop n actions) (sym (add-one i)) in
    so_far.told ∙ ap (λ (xs : List Action). known so_far.all (edits item xs)) here
    ∙ ap (λ (r : Result Edit ActionFault). known so_far.all
    (r >>= (λ f. edits item rest >>= (λ more. Ok (f ∷ more))))) refused

append_none : (es : List Edit) → es ++ [] ≡ es
append_none [] = refl
append_none (e ∷ es) = ap (λ fs. e ∷ fs) (append_none es)

-- all of them
pub sketched-all : (item : View) (actions : List Action) (i : ℕ) (es : List Edit) (whole : Bool)
    → drop i actions ≡ [] → SketchedSoFar item actions i es whole
    → AreSketched (edits item actions) es whole
sketched-all item actions i es whole end so_far = record {
  all = so_far.all;
  are = so_far.told ∙ ap (λ xs. known so_far.all (edits item xs)) end
      ∙ ap Ok (append_none so_far.all);
  stand_in = so_far.stand_in;
  same = so_far.same;
}

-- what the changes by these edits say of the item
pub sketch_of : (item : View) (actions : List Action) (es : List Edit) (s : Sketch)
    → AreSketched (edits item actions) es s.whole
    → ((name : List ℕ) → changed_by s.changes.items item name ≡ place_after (under (Name name) es) (item name))
    → IsSketch item (updated item actions) s
sketch_of item actions es s sketched made = record {
  new = λ name. place_after (under (Name name) sketched.all) (item name);
  updated = ap (λ (r : Result (List Edit) ActionFault). r
      >>= (λ fs. Ok (λ (name : List ℕ). place_after (under (Name name) fs) (item name)))) sketched.are;
  stands_in = λ name.
      subst (λ o. StandsInIf o (place_after (under (Name name) sketched.all) (item name)))
      (sym (made name))
      (after_in (under (Name name) es) (under (Name name) sketched.all)
      (under_in (Name name) es sketched.all sketched.stand_in) (item name));
  whole = λ e. λ j. λ name.
      (made name ∙ ap (λ (fs : List Edit). place_after (under (Name name) fs) (item name))
      (sketched.same e)) j;
}
