-- A path that was read is a path, and its tree is the phrase's.
use Rattle.std.proofs.Common.{◌≡◌, sym, ap, subst, ◌∙◌, ℕ, zero, suc, inl, inr, List, [], ◌∷◌, ◌++◌, map, drop, Option, Some, None, append_assoc, append-nil}
use Rattle.std.proofs.lemmas.Bool.{cases_Bool}
use Rattle.alt_value.specs.Tree.{Pair}
use Rattle.alt_expr.specs.Tokens.{Tok, word, hash, index, mark}
use Rattle.alt_expr.specs.Given.{name_of}
use Rattle.alt_expr.specs.declared.token.Mark.TheVariants as m
use Rattle.alt_expr.specs.declared.path.PathPart.{PathPart}
use Rattle.alt_expr.specs.declared.path.PathPart.TheVariants as p
use Rattle.alt_expr.specs.PathGrammar.{NamePhrase, plain, hashed, StepPhrase, dotted, indexed, path, name_tok, step_toks, steps_toks, path_toks, name_text, step_part, path_tree}
use Rattle.alt_expr.specs.Reader as r
use Rattle.alt_expr.specs.Reader.{Parser, sees_mark, after_mark, expect, parts_from, in_brackets}
use Rattle.alt_expr.proofs.Seen.{Derived, then_some, some_pair, mark_seen, expected}

name_sound : (names : List Pair) (i : List Tok) (w : List ℕ) (rest : List Tok)
    → r.name names i ≡ Some (w, rest) → (n : NamePhrase) × (i ≡ name_tok n ∷ rest)
    × (w ≡ name_text names n)
unfolding r.name
name_sound names [] w rest h = absurd (cc)
name_sound names (word v ∷ i) w rest h = let e = some_pair (v, i) (w, rest) h in
    (plain v, ap (λ x. word v ∷ x) e.1, sym e.0)
name_sound names (hash v ∷ i) w rest h = let e = some_pair (name_of names v, i) (w, rest) h in
    (hashed v, ap (λ x. hash v ∷ x) e.1, sym e.0)
name_sound names (_ ∷ i) w rest h = absurd (cc)

number_sound : (i : List Tok) (n : ℕ) (rest : List Tok) → r.number i ≡ Some (n, rest)
    → i ≡ index n ∷ rest
unfolding r.number
number_sound [] n rest h = absurd (cc)
number_sound (index v ∷ i) n rest h = let e = some_pair (v, i) (n, rest) h in
    ap (λ x. index x ∷ i) e.0 ∙ ap (λ x. index n ∷ x) e.1
number_sound (_ ∷ i) n rest h = absurd (cc)

index_part_sound : (i : List Tok) (x : PathPart) (rest : List Tok) → r.index_part i ≡ Some (x, rest)
    → (n : ℕ) × (i ≡ index n ∷ mark m.RightSquare ∷ rest) × (x ≡ p.Index n)
unfolding r.index_part
index_part_sound i x rest h =
    let a = then_some (r.number i) _ _ h in
    let b = then_some (expect m.RightSquare a.0.1) _ _ a.2 in
    let e = some_pair _ _ b.2 in
    (a.0.0, number_sound i _ _ a.1 ∙ ap (λ t. index a.0.0 ∷ t) (expected m.RightSquare _ b.0.0 _ b.1 ∙ ap (λ t. mark m.RightSquare ∷ t) e.1), sym e.0)

-- what `part` answers
data Parted (names : List Pair) (i : List Tok) (rest : List Tok) : Option PathPart → Type 0 where
  stepped : (s : StepPhrase) → i ≡ step_toks s ++ rest
      → Parted names i rest (Some (step_part names s))
  stopped : i ≡ rest → Parted names i rest None

part_sound : (names : List Pair) (i : List Tok) (x : Option PathPart) (rest : List Tok)
    → r.part names i ≡ Some (x, rest) → Parted names i rest x
unfolding r.part after_mark
part_sound names i x rest h = elim (cases_Bool (sees_mark m.Dot i)) [
  | inl seen ↦
      let g = simp seen at h in
      let a = then_some (r.name names (drop 1 i)) _ _ g in
      let n = name_sound names _ _ _ a.1 in
      let e = some_pair _ _ a.2 in
      let is : i ≡ step_toks (dotted n.0) ++ rest = mark_seen m.Dot i seen
      ∙ ap (λ t. mark m.Dot ∷ t) (n.1 ∙ ap (λ t. name_tok n.0 ∷ t) e.1) in
      subst (Parted names i rest) (ap (λ w. Some (p.Name w)) (sym n.2) ∙ e.0)
      (stepped (dotted n.0) is)
  | inr no_dot ↦ elim (cases_Bool (sees_mark m.LeftSquare i)) [
    | inl seen ↦
        let g = simp (no_dot, seen) at h in
        let a = then_some (r.index_part (drop 1 i)) _ _ g in
        let n = index_part_sound _ _ _ a.1 in
        let e = some_pair _ _ a.2 in
        let is : i ≡ step_toks (indexed n.0) ++ rest = mark_seen m.LeftSquare i seen
        ∙ ap (λ t. mark m.LeftSquare ∷ t)
        (n.1 ∙ ap (λ t. index n.0 ∷ mark m.RightSquare ∷ t) e.1) in
        subst (Parted names i rest) (ap Some (sym n.2) ∙ e.0) (stepped (indexed n.0) is)
    | inr none ↦
        let g = simp (no_dot, none) at h in
        let e = some_pair _ _ g in
        subst (Parted names i rest) e.0 (stopped e.1)
  ]
]

-- steps that were read behind others
pub record Steps (names : List Pair) (found : List PathPart) (i : List Tok) (xs : List PathPart)
    (rest : List Tok) : Type 0 where
  pub by : List StepPhrase
  pub tokens : i ≡ steps_toks by ++ rest
  pub stands : xs ≡ found ++ map (step_part names) by

-- one step more was read
parts_next : (names : List Pair) (n : ℕ) (found : List PathPart) (i : List Tok) (xs : List PathPart)
    (rest : List Tok) (x : Option PathPart) (now : List Tok) → Parted names i now x
    → ((found : List PathPart) (i : List Tok) (xs : List PathPart) (rest : List Tok)
    → parts_from names n found i ≡ Some (xs, rest) → Steps names found i xs rest)
    → r.parts_on (parts_from names n) found x now ≡ Some (xs, rest) → Steps names found i xs rest
parts_next names n found i xs rest (Some x) now (stepped s is) ih h =
    let a = ih (found ++ step_part names s ∷ []) now xs rest h in
    record {
      by = s ∷ a.by;
      tokens = is ∙ ap (λ t. step_toks s ++ t) a.tokens
          ∙ sym (append_assoc (step_toks s) (steps_toks a.by) rest);
      stands = a.stands ∙ append_assoc found (step_part names s ∷ []) (map (step_part names) a.by);
    }
parts_next names n found i xs rest None now (stopped is) ih h =
    let e = some_pair _ _ h in
    record { by = []; tokens = is ∙ e.1; stands = sym e.0 ∙ sym (append-nil found) }

parts_sound : (names : List Pair) (n : ℕ) (found : List PathPart) (i : List Tok)
    (xs : List PathPart) (rest : List Tok) → parts_from names n found i ≡ Some (xs, rest)
    → Steps names found i xs rest
unfolding parts_from
parts_sound names zero found i xs rest h = absurd (cc)
parts_sound names (suc n) found i xs rest h =
    let a = then_some (r.part names i) _ _ h in
    parts_next names n found i xs rest a.0.0 a.0.1 (part_sound names i _ _ a.1)
    (λ f j ys t. parts_sound names n f j ys t) a.2

-- a path that was read is one
pub path_sound : (names : List Pair) (i : List Tok) (xs : List PathPart) (rest : List Tok)
    → r.path names i ≡ Some (xs, rest) → Derived path_toks (path_tree names) i xs rest
unfolding r.path
path_sound names i xs rest h =
    let a = then_some (r.name names i) _ _ h in
    let n = name_sound names i _ _ a.1 in
    let b = parts_sound names _ _ _ _ _ a.2 in
    record {
      by = path n.0 b.by;
      tokens = n.1 ∙ ap (λ t. name_tok n.0 ∷ t) b.tokens;
      stands = b.stands ∙ ap (λ w. p.Name w ∷ map (step_part names) b.by) n.2;
    }

-- what was read in brackets
pub bracketed : {D T : Type 0} (toks : D → List Tok) (tree : D → T) (f : Parser T)
    → ((i : List Tok) (x : T) (rest : List Tok) → f i ≡ Some (x, rest) → Derived toks tree i x rest)
    → (i : List Tok) (x : T) (rest : List Tok) → in_brackets f i ≡ Some (x, rest)
    → Derived (λ d. toks d ++ mark m.RightRound ∷ []) tree i x rest
unfolding in_brackets
bracketed toks tree f sound i x rest h =
    let a = then_some (f i) _ _ h in
    let b = then_some (expect m.RightRound a.0.1) _ _ a.2 in
    let e = some_pair _ _ b.2 in
    let d = sound i _ _ a.1 in
    let close : a.0.1 ≡ mark m.RightRound ∷ rest = expected m.RightRound _ b.0.0 _ b.1
    ∙ ap (λ t. mark m.RightRound ∷ t) e.1 in
    record {
      by = d.by;
      tokens = d.tokens ∙ ap (λ t. toks d.by ++ t) close
          ∙ sym (append_assoc (toks d.by) (mark m.RightRound ∷ []) rest);
      stands = sym e.0 ∙ d.stands;
    }
