-- What the program's values stand for. Private contracts alone cite it.
use Rattle.std.specs.Prelude.{◌≡◌, ◌<◌, ℕ, Bool, true, false, List, [], ◌∷◌, ◌++◌, map, Option, Some, None, option_map, is_none, nat_le, if◌then◌else◌, Result, Ok, Err, ℤ, Vec}
use Rattle.std.specs.List.{filter}
use Rattle.std.specs.declared.alloc.Global.{Global}
use denote.Ref.{Bor}
use Rattle.alt_value.specs.Item.{at_name, with_pair}
use Rattle.alt_value.specs.Size.{size}
use Rattle.alt_value.specs.Stands.{tree_of}
use Rattle.alt_value.specs.declared.attr.Attr.{Attr}
use Rattle.alt_value.specs.Tree.{Tree, N_tree, L_tree, Pair, trees_of, elements}
use Rattle.alt_expr.specs.Updated.{Edit, ActionFault, wrong_kind, put_here, under}
use Rattle.alt_expr.specs.declared.path.PathPart.{PathPart}
use Rattle.alt_expr.specs.declared.path.PathPart.TheVariants.{Name, Index}
use Rattle.alt_updeval.specs.StandsIn.{longest_key, as_key, EachOfTwo, StandsInEdit}
use Rattle.alt_updeval.specs.declared.made.Made.{Made}
use Rattle.alt_updeval.specs.declared.term.Operand.{Operand}
use Rattle.alt_updeval.specs.declared.term.Operand.TheVariants as operand
use Rattle.alt_updeval.specs.declared.made.Made.TheVariants.{Borrowed, Joined, Own}

-- ---- values

-- the elements of a value that is a list
abbrev pub elements_of : Tree → List Tree
elements_of (L_tree ts) = elements ts
elements_of t = []

-- the elements of lists, one list behind another
abbrev pub joined_pieces : List (Bor Attr) → List Tree
joined_pieces [] = []
joined_pieces (p ∷ ps) = elements_of (tree_of p.now) ++ joined_pieces ps

-- the value that an operand stands for
abbrev pub operand_value : Operand → Tree
operand_value (operand.One a) = tree_of a.now
operand_value (operand.Lists pieces) = L_tree (trees_of (joined_pieces pieces.items))

-- A value that is larger than the longest key, and is no key.
pub record IsLarge (t : Tree) : Type 0 where
  pub large : longest_key < size t
  pub no_key : as_key t ≡ None

-- a list that is so large
abbrev pub IsLargeList : Tree → Type 0
IsLargeList (L_tree ts) = longest_key < size (L_tree ts)
IsLargeList t = ⊥

-- whether a value is a number
abbrev pub is_number : Tree → Bool
is_number (N_tree z) = true
is_number t = false

-- the value that is put
abbrev pub made_tree : Made → Tree
made_tree (Borrowed a) = tree_of a.now
made_tree (Joined pieces) = L_tree (trees_of (joined_pieces pieces.items))
made_tree (Own a) = tree_of a

-- the elements of a list
abbrev pub list_in_tree : Tree → Result (List Tree) ActionFault
list_in_tree (L_tree ts) = Ok (elements ts)
list_in_tree _ = Err wrong_kind

-- the number that a value is
abbrev pub number_in_tree : Tree → Option ℤ
number_in_tree (N_tree z) = Some z
number_in_tree _ = None

-- ---- edits

-- what is changed behind the first step
abbrev pub edit_behind_step : Bor (List PathPart) × Option Made → Edit
edit_behind_step e = (e.0.now, option_map made_tree e.1)

-- an edit of an attribute, by its name and what stands behind it
abbrev pub attribute_edit : Bor (List ℕ) × (Bor (List PathPart) × Option Made) → Edit
attribute_edit e = (Name e.0.now ∷ e.1.0.now, option_map made_tree e.1.1)

-- the same of a borrowed value
abbrev pub way_of : Bor (List PathPart) × Option (Bor Made) → Edit
way_of w = (w.0.now, option_map (λ m. made_tree m.now) w.1)

-- an edit that begins with a name: it, and what stands behind it
abbrev pub way_at_name : Bor (List ℕ) × (Bor (List PathPart) × Option (Bor Made)) → List ℕ × Edit
way_at_name p = (p.0.now, way_of p.1)

-- the same of one that begins with an index
abbrev pub way_at_index : ℕ × (Bor (List PathPart) × Option (Bor Made)) → ℕ × Edit
way_at_index p = (p.0, way_of p.1)

-- the edits of a group, or none
abbrev pub ways_in : Option (Bor (Vec (Bor (List PathPart) × Option (Bor Made)) Global)) → List Edit
ways_in None = []
ways_in (Some v) = map way_of v.now.items

-- something is put at this very place
abbrev pub is_put : Edit → Bool
is_put ([], Some t) = true
is_put _ = false

-- this very place is taken out
abbrev pub is_taken_out : Edit → Bool
is_taken_out ([], None) = true
is_taken_out _ = false

-- the only change is that of the place itself
abbrev pub is_edited_whole : List Edit → Bool
is_edited_whole (([], v) ∷ []) = true
is_edited_whole _ = false

-- ---- edits by their first step

-- the edits that begin with a name: it, and what stands behind it
abbrev pub named_edits : List Edit → List (List ℕ × Edit)
named_edits [] = []
named_edits ((Name name ∷ ps, v) ∷ es) = (name, (ps, v)) ∷ named_edits es
named_edits (_ ∷ es) = named_edits es

-- the same of those that begin with an index
abbrev pub indexed_edits : List Edit → List (ℕ × Edit)
indexed_edits [] = []
indexed_edits ((Index i ∷ ps, v) ∷ es) = (i, (ps, v)) ∷ indexed_edits es
indexed_edits (_ ∷ es) = indexed_edits es

-- those of a name that the map doesn't have
abbrev pub new_names : List Pair → List (List ℕ × Edit) → List (List ℕ × Edit)
new_names ps es = filter (λ e. is_none (at_name e.0 ps)) es

-- those of an index past the end
abbrev pub edits_past_end : ℕ → List (ℕ × Edit) → List (ℕ × Edit)
edits_past_end n es = filter (λ e. nat_le n e.0) es

-- what edits put at a name that isn't empty
abbrev pub put_at : List Edit → List ℕ → Option Tree
put_at es [] = None
put_at es (c ∷ cs) = put_here (under (Name (c ∷ cs)) es)

-- the same where the map doesn't have the name
abbrev pub new_at : List Edit → List Pair → List ℕ → Option Tree
new_at es ps name = if is_none (at_name name ps) then put_at es name else None

-- the map with that value at the name, if there is one to put
abbrev pub put_if : List ℕ → Option Tree → List Pair → List Pair
put_if name None ps = ps
put_if name (Some t) ps = with_pair name t ps

-- the same where no name is empty
abbrev pub put_new_if : List ℕ → Option Tree → List Pair → List Pair
put_new_if [] o ps = ps
put_new_if (c ∷ cs) o ps = put_if (c ∷ cs) o ps

-- ---- sketches

-- edits that stand in for those of the definition, and are the same where nothing was left out
pub record AreSketched (told : Result (List Edit) ActionFault) (es : List Edit) (whole : Bool) : Type 0 where
  pub all : List Edit
  pub are : told ≡ Ok all
  pub stand_in : EachOfTwo StandsInEdit es all
  pub same : whole ≡ true → es ≡ all
