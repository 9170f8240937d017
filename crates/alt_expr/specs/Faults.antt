-- The faults of a text, in the order in which they are told, and what a parser answers.
use Rattle.std.specs.Prelude.{◌≡◌, ◌≢◌, ◌⊎◌, ℕ, ◌<◌, Bool, true, List, [], ◌∷◌, length, Result, Ok, Err, ⊤}
use Rattle.std.specs.List.{list_any}
use Rattle.alt_expr.specs.Tokens.{Tok}
use Rattle.alt_expr.specs.Given.{Given, is_unknown, with_hashes, with_colons}
use Rattle.alt_expr.specs.Lexed.{Lexes}
use Rattle.alt_expr.specs.Nesting.{NestsTooDeep}
use Rattle.alt_expr.specs.NamesGiven.{given_names, used_names, is_empty_given, used_values}
use Rattle.alt_expr.specs.declared.fault.ExprFault.{ExprFault}
use Rattle.alt_expr.specs.declared.fault.ExprFault.TheVariants as fault
use Rattle.alt_expr.specs.declared.names.Names.{Names}
use Rattle.alt_expr.specs.declared.values.Values.{Values}

-- A grammar: the tokens that a phrase of it derives, its tree over what is given, and what more is asked: whether a path or
-- a list of a tree is too long, whether a clause of a phrase stands twice, and whether paths of a tree overlap.
pub record Language (D A : Type 0) : Type 0 where
  pub toks : D → List Tok
  pub tree : Given → D → A
  pub is_crowded : A → Bool
  pub repeats : D → Bool
  pub overlaps : A → Bool

-- the order in which faults are told
abbrev pub fault_order : List ExprFault
fault_order = fault.TooLong ∷ fault.TooDeep ∷ fault.Syntax ∷ fault.Undefined ∷ fault.TooMany
    ∷ fault.RepeatedClause ∷ fault.Overlap ∷ []

-- it is the first of the list that applies
abbrev pub IsFirst : (ExprFault → Type 0) → List ExprFault → ExprFault → Type 0
IsFirst Applies [] f = ⊥
IsFirst Applies (e ∷ es) f = ((f ≡ e) × Applies e) ⊎ ((Applies e → ⊥) × IsFirst Applies es f)

-- none of the list applies
abbrev pub NoneApplies : (ExprFault → Type 0) → List ExprFault → Type 0
NoneApplies Applies [] = ⊤
NoneApplies Applies (e ∷ es) = (Applies e → ⊥) × NoneApplies Applies es

-- a tree exactly where no fault applies, and else the first that does
abbrev pub AnswersTreeOrFault : {A : Type 0} → (ExprFault → Type 0) → (A → Type 0)
    → Result A ExprFault → Type 0
AnswersTreeOrFault Applies IsTree (Ok a) = NoneApplies Applies fault_order × IsTree a
AnswersTreeOrFault Applies IsTree (Err fault.NoMemory) = ⊤
AnswersTreeOrFault Applies IsTree (Err f) = IsFirst Applies fault_order f

module _ {D A : Type 0} (L : Language D A) (g : Given) (text : List ℕ) where
  -- the text is derived by the productions, as this phrase
  abbrev pub Derives : D → Type 0
  Derives d = Lexes text (L.toks d) true

  -- which faults a text has
  abbrev pub HasFault : ExprFault → Type 0
  HasFault fault.TooLong = 4096 < length text
  HasFault fault.TooDeep = (toks : List Tok) × (whole : Bool) × Lexes text toks whole × NestsTooDeep toks
  HasFault fault.Syntax = (d : D) × Derives d → ⊥
  HasFault fault.Undefined = (d : D) × Derives d × (list_any (is_unknown g) (L.toks d) ≡ true)
  HasFault fault.TooMany = (d : D) × Derives d × (L.is_crowded (L.tree g d) ≡ true)
  HasFault fault.RepeatedClause = (d : D) × Derives d × (L.repeats d ≡ true)
  HasFault fault.Overlap = (d : D) × Derives d × (L.overlaps (L.tree g d) ≡ true)
  HasFault fault.NoMemory = ⊥

  -- the tree of the text: that of its phrase, with names and values put in
  abbrev pub IsTreeOf : A → Type 0
  IsTreeOf a = (d : D) × Derives d × (a ≡ L.tree g d)

  -- what a parser answers of the text
  unfoldable pub Parsed : Result A ExprFault → Type 0
  Parsed result = AnswersTreeOrFault HasFault IsTreeOf result

-- the words of a text that was parsed are noted; where it wasn't, none is
unfoldable pub NotesHashes : {A : Type 0} → List ℕ → Names → Names → Result A ExprFault → Type 0
NotesHashes text old new (Ok a) = (toks : List Tok) × Lexes text toks true
    × (used_names new ≡ with_hashes toks (used_names old))
NotesHashes text old new (Err f) = f ≢ fault.NoMemory → used_names new ≡ used_names old

-- the same of the words for values
unfoldable pub NotesColons : {A : Type 0} → List ℕ → Values → Values → Result A ExprFault → Type 0
NotesColons text old new (Ok a) = (toks : List Tok) × Lexes text toks true
    × (used_values new ≡ with_colons toks (used_values old))
NotesColons text old new (Err f) = f ≢ fault.NoMemory → used_values new ≡ used_values old

-- what is given stays
pub record KeepsNames (old new : Names) : Type 0 where
  pub names : given_names new ≡ given_names old
  pub empty : is_empty_given new ≡ is_empty_given old
