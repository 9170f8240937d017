-- From the tokens of a text to the text: which fault is the first, and that the tree is its own.
use Rattle.std.proofs.Common.{◌≡◌, ◌≢◌, refl, sym, subst, ◌∙◌, ℕ, ◌<◌, ◌≤◌, inl, inr, Bool, true, false, List, [], ◌∷◌, length, Ok, Err, arith}
use Rattle.std.specs.Prelude.{Result}
use Rattle.std.specs.List.{list_any}
use Rattle.alt_expr.specs.Tokens.{Tok}
use Rattle.alt_expr.specs.Given.{Given, is_unknown}
use Rattle.alt_expr.specs.Lexed.{Lexes}
use Rattle.alt_expr.specs.Nesting.{NestsTooDeep}
use Rattle.alt_expr.specs.Faults.{Language, IsFirst, NoneApplies, AnswersTreeOrFault, fault_order, HasFault, IsTreeOf, Parsed}
use Rattle.alt_expr.specs.Read.{IsOf, IsTree, ReadsWhole, TokensHave, ReadTokens}
use Rattle.alt_expr.specs.declared.fault.ExprFault.{ExprFault}
use Rattle.alt_expr.specs.declared.fault.ExprFault.TheVariants as fault
use Rattle.alt_expr.proofs.Once.{tokens_once}

-- ---- answers by other words for the same faults

module _ (P Q : ExprFault → Type 0) (to : (f : ExprFault) → P f → Q f)
    (back : (f : ExprFault) → Q f → P f) where
  first_as : (es : List ExprFault) (f : ExprFault) → IsFirst P es f → IsFirst Q es f
  first_as [] f h = h
  first_as (e ∷ es) f (inl h) = inl (h.0, to e h.1)
  first_as (e ∷ es) f (inr h) = inr ((λ q. h.0 (back e q)), first_as es f h.1)

  none_as : (es : List ExprFault) → NoneApplies P es → NoneApplies Q es
  none_as [] h = tt
  none_as (e ∷ es) h = ((λ q. h.0 (back e q)), none_as es h.1)

  -- what is answered with one tree is answered with what follows of it
  pub answers_as : {A : Type 0} (T U : A → Type 0) → ((a : A) → T a → U a)
      → (r : Result A ExprFault) → AnswersTreeOrFault P T r → AnswersTreeOrFault Q U r
  answers_as T U tree (Ok a) h = (none_as fault_order h.0, tree a h.1)
  answers_as T U tree (Err fault.TooLong) h = first_as fault_order fault.TooLong h
  answers_as T U tree (Err fault.TooDeep) h = first_as fault_order fault.TooDeep h
  answers_as T U tree (Err fault.Syntax) h = first_as fault_order fault.Syntax h
  answers_as T U tree (Err fault.Undefined) h = first_as fault_order fault.Undefined h
  answers_as T U tree (Err fault.TooMany) h = first_as fault_order fault.TooMany h
  answers_as T U tree (Err fault.RepeatedClause) h = first_as fault_order fault.RepeatedClause h
  answers_as T U tree (Err fault.Overlap) h = first_as fault_order fault.Overlap h
  answers_as T U tree (Err fault.NoMemory) h = tt

module _ {D A : Type 0} (L : Language D A) (g : Given) where
  -- ---- from tokens to the text

  module _ (text : List ℕ) (toks : List Tok) (whole : Bool) (lexes : Lexes text toks whole) where
    by_tokens : (d : D) → whole ≡ true → toks ≡ L.toks d → Lexes text (L.toks d) true
    by_tokens d w is =
        subst (λ v. Lexes text (L.toks d) v) w (subst (λ ts. Lexes text ts whole) is lexes)

    once : (d : D) → Lexes text (L.toks d) true → (toks ≡ L.toks d) × (whole ≡ true)
    once d l = tokens_once text toks (L.toks d) whole true lexes l

    to_text : (f : ExprFault) → TokensHave L g toks whole f → HasFault L g text f
    to_text fault.TooLong h = absurd h
    to_text fault.TooDeep h = (toks, whole, lexes, h)
    to_text fault.Syntax h = λ p. let o = once p.0 p.1 in h (o.1, (p.0, o.0))
    to_text fault.Undefined h = (h.1.0, by_tokens h.1.0 h.0 h.1.1, h.1.2)
    to_text fault.TooMany h = (h.1.0, by_tokens h.1.0 h.0 h.1.1, h.1.2)
    to_text fault.RepeatedClause h = (h.1.0, by_tokens h.1.0 h.0 h.1.1, h.1.2)
    to_text fault.Overlap h = (h.1.0, by_tokens h.1.0 h.0 h.1.1, h.1.2)
    to_text fault.NoMemory h = h

    to_tokens : length text ≤ 4096 → (f : ExprFault) → HasFault L g text f
        → TokensHave L g toks whole f
    to_tokens short fault.TooLong h = absurd (omega (arith, short, h))
    to_tokens short fault.TooDeep h =
        subst NestsTooDeep (sym (tokens_once text toks h.0 whole h.1 lexes h.2).0) h.3
    to_tokens short fault.Syntax h = λ p. h (p.1.0, by_tokens p.1.0 p.0 p.1.1)
    to_tokens short fault.Undefined h = let o = once h.0 h.1 in (o.1, (h.0, o.0, h.2))
    to_tokens short fault.TooMany h = let o = once h.0 h.1 in (o.1, (h.0, o.0, h.2))
    to_tokens short fault.RepeatedClause h = let o = once h.0 h.1 in (o.1, (h.0, o.0, h.2))
    to_tokens short fault.Overlap h = let o = once h.0 h.1 in (o.1, (h.0, o.0, h.2))
    to_tokens short fault.NoMemory h = h

    -- the answer by the tokens is that by the text
    pub parsed_by_tokens : length text ≤ 4096 → (r : Result A ExprFault)
        → ReadTokens L g toks whole r → Parsed L g text r
    unfolding ReadTokens Parsed
    parsed_by_tokens short r h =
        answers_as (TokensHave L g toks whole) (HasFault L g text) to_text (to_tokens short) _
        (IsTreeOf L g text)
        (λ a t. (t.1.0, by_tokens t.1.0 t.0 t.1.1, t.1.2)) r h

  -- a text that is too long
  pub parsed_too_long : (text : List ℕ) → 4096 < length text → Parsed L g text (Err fault.TooLong)
  unfolding Parsed
  parsed_too_long text long = inl (refl, long)

  -- want of memory is free
  pub parsed_no_memory : (text : List ℕ) → Parsed L g text (Err fault.NoMemory)
  unfolding Parsed
  parsed_no_memory text = tt

  -- and so it is of tokens
  pub read_no_memory : (toks : List Tok) (whole : Bool)
      → ReadTokens L g toks whole (Err fault.NoMemory)
  unfolding ReadTokens
  read_no_memory toks whole = tt

  -- ---- which fault of the tokens is the first

  module _ (toks : List Tok) (whole : Bool) where
    no_length : TokensHave L g toks whole fault.TooLong → ⊥
    no_length h = h

    pub read_too_deep : NestsTooDeep toks → ReadTokens L g toks whole (Err fault.TooDeep)
    unfolding ReadTokens
    read_too_deep deep = inr (no_length, inl (refl, deep))

    pub read_cut : (NestsTooDeep toks → ⊥) → whole ≡ false → ReadTokens L g toks whole (Err fault.Syntax)
    unfolding ReadTokens
    read_cut shallow cut = inr (no_length, inr (shallow, inl (refl, λ p. let e : true ≡ false = sym p.0 ∙ cut in absurd (cc))))

    pub read_syntax : (NestsTooDeep toks → ⊥) → (IsOf L g toks → ⊥)
        → ReadTokens L g toks whole (Err fault.Syntax)
    unfolding ReadTokens
    read_syntax shallow none = inr (no_length, inr (shallow, inl (refl, λ p. none p.1)))

    -- an error of the reader
    pub read_err : (f : ExprFault) → (NestsTooDeep toks → ⊥) → ReadsWhole L g toks (Err f)
        → ReadTokens L g toks whole (Err f)
    unfolding ReadTokens ReadsWhole
    read_err fault.TooLong shallow h = let e = (h (λ e. cc)).0 in absurd (cc)
    read_err fault.TooDeep shallow h = let e = (h (λ e. cc)).0 in absurd (cc)
    read_err fault.Syntax shallow h = read_syntax shallow (h (λ e. cc)).1
    read_err fault.Undefined shallow h = let e = (h (λ e. cc)).0 in absurd (cc)
    read_err fault.TooMany shallow h = let e = (h (λ e. cc)).0 in absurd (cc)
    read_err fault.RepeatedClause shallow h = let e = (h (λ e. cc)).0 in absurd (cc)
    read_err fault.Overlap shallow h = let e = (h (λ e. cc)).0 in absurd (cc)
    read_err fault.NoMemory shallow h = tt

    module _ (shallow : NestsTooDeep toks → ⊥) (is_whole : whole ≡ true) (a : A)
        (tree : IsTree L g toks a)
        (one_tree : (d e : D) → L.toks d ≡ L.toks e → L.tree g d ≡ L.tree g e) where
      has_syntax : TokensHave L g toks whole fault.Syntax → ⊥
      has_syntax h = h (is_whole, (tree.0, tree.1))

      -- the tree of a phrase with these tokens
      same_tree : (d : D) → toks ≡ L.toks d → L.tree g d ≡ a
      same_tree d is = one_tree d tree.0 (sym is ∙ tree.1) ∙ sym tree.2

      differ : (b : Bool) → b ≡ true → b ≡ false → ⊥
      differ b p q = cc

      pub read_undefined : list_any (is_unknown g) toks ≡ true
          → ReadTokens L g toks whole (Err fault.Undefined)
      unfolding ReadTokens
      read_undefined h =
          inr (no_length, inr (shallow, inr (has_syntax, inl (refl, (is_whole, (tree.0, tree.1, subst (λ ts. list_any (is_unknown g) ts ≡ true) tree.1 h))))))

      module _ (known : list_any (is_unknown g) toks ≡ false) where
        no_unknown : TokensHave L g toks whole fault.Undefined → ⊥
        no_unknown h =
            differ _ (subst (λ ts. list_any (is_unknown g) ts ≡ true) (sym h.1.1) h.1.2) known

        pub read_too_many : L.is_crowded a ≡ true → ReadTokens L g toks whole (Err fault.TooMany)
        unfolding ReadTokens
        read_too_many h =
            inr (no_length, inr (shallow, inr (has_syntax, inr (no_unknown, inl (refl, (is_whole, (tree.0, tree.1, subst (λ b. L.is_crowded b ≡ true) tree.2 h)))))))

        module _ (few : L.is_crowded a ≡ false) where
          not_crowded : TokensHave L g toks whole fault.TooMany → ⊥
          not_crowded h =
              differ _ (subst (λ b. L.is_crowded b ≡ true) (same_tree h.1.0 h.1.1) h.1.2) few

          module _ (told : (d : D) → toks ≡ L.toks d → L.repeats d ≡ L.repeats tree.0) where
            pub read_repeated : L.repeats tree.0 ≡ true
                → ReadTokens L g toks whole (Err fault.RepeatedClause)
            unfolding ReadTokens
            read_repeated h =
                inr (no_length, inr (shallow, inr (has_syntax, inr (no_unknown, inr (not_crowded, inl (refl, (is_whole, (tree.0, tree.1, h))))))))

            module _ (apart : L.repeats tree.0 ≡ false) where
              no_repeat : TokensHave L g toks whole fault.RepeatedClause → ⊥
              no_repeat h = differ _ (sym (told h.1.0 h.1.1) ∙ h.1.2) apart

              pub read_overlap : L.overlaps a ≡ true → ReadTokens L g toks whole (Err fault.Overlap)
              unfolding ReadTokens
              read_overlap h =
                  inr (no_length, inr (shallow, inr (has_syntax, inr (no_unknown, inr (not_crowded, inr (no_repeat, inl (refl, (is_whole, (tree.0, tree.1, subst (λ b. L.overlaps b ≡ true) tree.2 h)))))))))

              pub read_tree : L.overlaps a ≡ false → ReadTokens L g toks whole (Ok a)
              unfolding ReadTokens
              read_tree h =
                  ((no_length, (shallow, (has_syntax, (no_unknown, (not_crowded, (no_repeat, ((λ o. differ _ (subst (λ b. L.overlaps b ≡ true) (same_tree o.1.0 o.1.1) o.1.2) h), tt))))))), (is_whole, tree))

  -- ---- reading to the end

  module _ (toks : List Tok) where
    -- what is read to the end is the tree
    pub whole_tree : (a : A) → IsTree L g toks a → ReadsWhole L g toks (Ok a)
    unfolding ReadsWhole
    whole_tree a t = t

    -- what isn't of the grammar
    pub whole_none : (f : ExprFault)
        → (f ≢ fault.NoMemory → (f ≡ fault.Syntax) × (IsOf L g toks → ⊥))
        → ReadsWhole L g toks (Err f)
    unfolding ReadsWhole
    whole_none f h = h

    -- the tree that was read
    pub tree_read : (a : A) → ReadsWhole L g toks (Ok a) → IsTree L g toks a
    unfolding ReadsWhole
    tree_read a t = t

    -- the tokens of what was parsed reach the end
    pub reaches_end : (whole : Bool) (a : A) → ReadTokens L g toks whole (Ok a) → whole ≡ true
    unfolding ReadTokens
    reaches_end whole a t = t.1.0
