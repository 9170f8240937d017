-- What the texts of a body state, each by what its parser answers.
use Rattle.std.proofs.Common.{◌≡◌, refl, sym, ap, ◌∙◌, ◌++◌, ℕ, true, List, [], ◌∷◌, Option, Some, None, Result, Ok, Err, arith}
use Rattle.serde_json.specs.Data.{Members}
use Rattle.alt_expr.specs.Faults.{Language, Parsed}
use Rattle.alt_expr.specs.Given as expr
use Rattle.alt_expr.specs.Given.{with_hashes, with_colons}
use Rattle.alt_expr.specs.Languages.{projections}
use Rattle.alt_expr.specs.Lookups.{names_alone}
use Rattle.alt_expr.specs.PathGrammar.{plain, hashed, StepPhrase, dotted, indexed, PathPhrase, path, step_toks, steps_toks, path_toks, between_toks}
use Rattle.alt_expr.specs.PathsGrammar.{PathsPhrase, paths}
use Rattle.alt_expr.specs.Told.{Told}
use Rattle.alt_expr.specs.Tokens.{Tok, hash, colon, mark}
use Rattle.alt_expr.specs.declared.cond.Cond.{Cond}
use Rattle.alt_expr.specs.declared.fault.ExprFault.{ExprFault}
use Rattle.alt_expr.specs.declared.fault.ExprFault.TheVariants as fault
use Rattle.alt_expr.specs.declared.path.PathPart.{PathPart}
use Rattle.alt_expr.specs.declared.token.Mark.TheVariants as m
use Rattle.alt_expr.specs.declared.update.Action.{Action}
use Rattle.alt_expr.proofs.CondTexts.{condition_of}
use Rattle.alt_expr.proofs.Once.{tokens_once}
use Rattle.alt_expr.proofs.PathsTexts.{paths_of}
use Rattle.alt_expr.proofs.TextTokens.{tokens_of}
use Rattle.alt_expr.proofs.UpdateTexts.{update_of}
use Rattle.alt_machine.specs.declared.Expressions.{Expressions}
use Rattle.alt_machine.specs.Expressions as machine
use Rattle.alt_machine.specs.Refusals.{◌>>=◌}
use Rattle.alt_machine.proofs.Spoken.{stated_is}
use Rattle.alt_said.specs.Steps.{Comes}
use Rattle.alt_said.specs.Words.{stop_of, all_stated}
use Rattle.alt_said.specs.declared.stop.Stop.{Stop}
use Rattle.alt_said.specs.declared.stop.Stop.TheVariants.{Refused, Fault}
use Rattle.alt_shape.specs.Refusals.{Answer}

-- ---- one text

module _ {D A : Type 0} (L : Language D A)
    (told : (g : expr.Given) (text : List ℕ) → Told L g text) (g : expr.Given)
    (unique : (d e : D) → L.toks d ≡ L.toks e → L.tree g d ≡ L.tree g e) (text : List ℕ) where
  -- what its parser read is what it states
  pub read_ok : (a : A) → Parsed L g text (Ok a) → machine.stated_by_text told g (Some text) ≡ Ok (Some a)
  read_ok a parsed =
      stated_is L told g unique text (Ok a) parsed (λ e. let f : ⊥ = cc in f)

  -- its first fault is what it is refused for
  pub read_err : (f : ExprFault) → Parsed L g text (Err f)
      → Comes {X = Option A} (λ x. x) (machine.stated_by_text told g (Some text)) (Err (stop_of f))
  read_err fault.TooLong h = (
    stated_is L told g unique text (Err fault.TooLong) h (λ e. let f : ⊥ = cc in f),
    omega arith,
  )
  read_err fault.TooDeep h = (
    stated_is L told g unique text (Err fault.TooDeep) h (λ e. let f : ⊥ = cc in f),
    omega arith,
  )
  read_err fault.Syntax h = (
    stated_is L told g unique text (Err fault.Syntax) h (λ e. let f : ⊥ = cc in f),
    omega arith,
  )
  read_err fault.Undefined h = (
    stated_is L told g unique text (Err fault.Undefined) h (λ e. let f : ⊥ = cc in f),
    omega arith,
  )
  read_err fault.TooMany h = (
    stated_is L told g unique text (Err fault.TooMany) h (λ e. let f : ⊥ = cc in f),
    omega arith,
  )
  read_err fault.RepeatedClause h = (
    stated_is L told g unique text (Err fault.RepeatedClause) h (λ e. let f : ⊥ = cc in f),
    omega arith,
  )
  read_err fault.Overlap h = (
    stated_is L told g unique text (Err fault.Overlap) h (λ e. let f : ⊥ = cc in f),
    omega arith,
  )
  read_err fault.NoMemory h = tt

module _ {D A : Type 0} (L : Language D A)
    (told : (g : expr.Given) (text : List ℕ) → Told L g text) (g h : expr.Given) (same : g ≡ h)
    (text at : Option (List ℕ)) (is : text ≡ at) where
  -- what is told of equal texts, with equal words, is the same
  stated_same : machine.stated_by_text told g text ≡ machine.stated_by_text told h at
  stated_same = λ i. machine.stated_by_text told (same i) (is i)

  -- what it states there
  pub stated_so : (o : Option A) → machine.stated_by_text told g text ≡ Ok o
      → machine.stated_by_text told h at ≡ Ok o
  stated_so o e = sym stated_same ∙ e

  -- what it is refused for there
  pub stopped_so : (stop : Stop)
      → Comes {X = Option A} (λ x. x) (machine.stated_by_text told g text) (Err stop)
      → Comes {X = Option A} (λ x. x) (machine.stated_by_text told h at) (Err stop)
  stopped_so (Refused r) e = (sym stated_same ∙ e.0, e.1)
  stopped_so (Fault f) e = e

-- ---- the four of them

-- what four texts state together
abbrev pub with_all : Option Cond → Option Cond → Option (List Action)
    → Option (List (List PathPart)) → Expressions
with_all keys condition update projection = record {
  key_condition = keys;
  condition = condition;
  update = update;
  projection = projection;
}

-- one after another
abbrev pub behind : Result (Option Cond) Answer → Result (Option Cond) Answer
    → Result (Option (List Action)) Answer → Result (Option (List (List PathPart))) Answer
    → Result Expressions Answer
behind k c u p = k >>= (λ keys. c >>= (λ condition. u >>= (λ update. p >>= (λ projection.
    Ok (with_all keys condition update projection)))))

module _ (texts : machine.Texts) (ms : Members) (g : expr.Given) where
  -- what each of them states
  abbrev pub keys_at : Result (Option Cond) Answer
  keys_at = machine.stated_by_text condition_of g (machine.text_at texts.key_condition ms)

  -- the text of the condition
  abbrev pub condition_at : Result (Option Cond) Answer
  condition_at = machine.stated_by_text condition_of g (machine.text_at texts.condition ms)

  -- the text of the update
  abbrev pub update_at : Result (Option (List Action)) Answer
  update_at = machine.stated_by_text update_of g (machine.text_at texts.update ms)

  -- the text of the projection
  abbrev pub paths_at : Result (Option (List (List PathPart))) Answer
  paths_at = machine.stated_by_text paths_of (names_alone g.names) (machine.text_at texts.projection ms)

  -- the condition on keys is refused
  pub no_keys : (stop : Stop) → Comes {X = Option Cond} (λ c. c) keys_at (Err stop)
      → Comes {X = Expressions} (λ e. e) (all_stated texts ms g) (Err stop)
  no_keys (Refused r) h = (ap (λ k. behind k condition_at update_at paths_at) h.0, h.1)
  no_keys (Fault f) h = h

-- ---- their words

-- the names in words that stand behind others are noted behind theirs
pub with_hashes-append : (a b : List Tok) (used : List (List ℕ))
    → with_hashes (a ++ b) used ≡ with_hashes b (with_hashes a used)
with_hashes-append [] b used = refl
with_hashes-append (hash w ∷ a) b used = with_hashes-append a b _
with_hashes-append (t ∷ a) b used = with_hashes-append a b used

-- and so are the values
pub with_colons-append : (a b : List Tok) (used : List (List ℕ))
    → with_colons (a ++ b) used ≡ with_colons b (with_colons a used)
with_colons-append [] b used = refl
with_colons-append (colon w ∷ a) b used = with_colons-append a b _
with_colons-append (t ∷ a) b used = with_colons-append a b used

-- what four texts note of their names
pub hashes_all : (a b c d : List Tok) (t u v w x : List (List ℕ)) → u ≡ with_hashes a t
    → v ≡ with_hashes b u → w ≡ with_hashes c v → x ≡ with_hashes d w
    → x ≡ with_hashes (a ++ b ++ c ++ d) t
hashes_all a b c d t u v w x e f g h =
    let two = f ∙ ap (with_hashes b) e ∙ sym (with_hashes-append a b t) in
    let three = g ∙ ap (with_hashes c) two ∙ sym (with_hashes-append (a ++ b) c t) in
    h ∙ ap (with_hashes d) three ∙ sym (with_hashes-append (a ++ b ++ c) d t)

-- no word of these is one for a value
abbrev pub NoColons : List Tok → Type 0
NoColons toks = (used : List (List ℕ)) → with_colons toks used ≡ used

-- and of their values, where the fourth has none
pub colons_all : (a b c d : List Tok) (t u v w : List (List ℕ)) → u ≡ with_colons a t
    → v ≡ with_colons b u → w ≡ with_colons c v → NoColons d
    → w ≡ with_colons (a ++ b ++ c ++ d) t
colons_all a b c d t u v w e f g none =
    let two = f ∙ ap (with_colons b) e ∙ sym (with_colons-append a b t) in
    let three = g ∙ ap (with_colons c) two ∙ sym (with_colons-append (a ++ b) c t) in
    three ∙ sym (none (with_colons (a ++ b ++ c) t)) ∙ sym (with_colons-append (a ++ b ++ c) d t)

-- words without one for a value have none behind others without
none_append : (a b : List Tok) → NoColons a → NoColons b → NoColons (a ++ b)
none_append a b h k used = with_colons-append a b used ∙ k (with_colons a used) ∙ h used

-- a step of a path has no word for a value
step_none : (s : StepPhrase) → NoColons (step_toks s)
step_none (dotted (plain w)) used = refl
step_none (dotted (hashed w)) used = refl
step_none (indexed n) used = refl

-- nor have several steps
steps_none : (ss : List StepPhrase) → NoColons (steps_toks ss)
steps_none [] used = refl
steps_none (s ∷ ss) used =
    none_append (step_toks s) (steps_toks ss) (step_none s) (steps_none ss) used

-- nor has a path
path_none : (p : PathPhrase) → NoColons (path_toks p)
path_none (path (plain w) ss) used = steps_none ss used
path_none (path (hashed w) ss) used = steps_none ss used

-- nor have paths with commas between them
between_none : (p : PathPhrase) (ps : List PathPhrase)
    → NoColons (between_toks path_toks (mark m.Comma) p ps)
between_none p [] used = path_none p used
between_none p (q ∷ ps) used = none_append (path_toks p)
    (mark m.Comma ∷ between_toks path_toks (mark m.Comma) q ps) (path_none p)
    (λ other. between_none q ps other) used

-- nor has what a projection is derived from
paths_none : (d : PathsPhrase) → NoColons (projections.toks d)
unfolding projections
paths_none (paths p ps) used = between_none p ps used

-- a projection has no word for a value
parsed_none : (g : expr.Given) (text : List ℕ) (tree : List (List PathPart))
    → Parsed projections g text (Ok tree) → NoColons (machine.words_of (Some text))
unfolding Parsed
parsed_none g text tree parsed used =
    let derived = parsed.1 in
    let of_text = tokens_of text in
    ap (λ ts. with_colons ts used) ((tokens_once text of_text.toks (projections.toks derived.0)
    of_text.whole true of_text.lexes derived.1).0)
    ∙ paths_none derived.0 used

-- nor has the text of a projection that was stated, or that isn't given
pub paths_words : (g : expr.Given) (text : Option (List ℕ))
    (projection : Option (List (List PathPart))) → machine.stated_by_text paths_of g text ≡ Ok projection
    → NoColons (machine.words_of text)
paths_words g None projection e used = refl
paths_words g (Some text) projection e used = by told.result told.parsed e used
  where
    told : Told projections g text
    told = paths_of g text

    by : (r : Result (List (List PathPart)) ExprFault) → Parsed projections g text r
        → machine.read_or_refused r ≡ Ok projection → NoColons (machine.words_of (Some text))
    by (Ok tree) parsed f used = parsed_none g text tree parsed used
    by (Err e) parsed f used = absurd (let k : ⊥ = cc in k)
