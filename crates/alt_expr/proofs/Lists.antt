-- Lists with commas between: what is derived is read, and what is read was derived.
use Rattle.std.proofs.Common.{◌≡◌, sym, ap, ◌∙◌, ℕ, zero, suc, ◌+◌, ◌<◌, ◌≤◌, false, inl, inr, List, [], ◌∷◌, ◌++◌, length, map, drop, Some, arith, append_assoc, append-nil, length-append}
use Rattle.std.proofs.lemmas.Bool.{cases_Bool}
use Rattle.alt_expr.specs.Tokens.{Tok, mark}
use Rattle.alt_expr.specs.declared.token.Mark.TheVariants as m
use Rattle.alt_expr.specs.PathGrammar.{between_toks}
use Rattle.alt_expr.specs.Reader.{Parser, sees_mark, after_mark, comma_separated, listed_from}
use Rattle.alt_expr.proofs.Seen.{Derived, then_some, some_pair, mark_seen}

module _ {D T : Type 0} (toks : D → List Tok) (tree : D → T) (one : Parser T) where
  -- each behind a comma
  abbrev pub more_toks : List D → List Tok
  more_toks [] = []
  more_toks (d ∷ ds) = mark m.Comma ∷ (toks d ++ more_toks ds)

  -- the tokens of a list are those of its first member, and those of the others behind commas
  pub between_is : (d : D) (ds : List D) → between_toks toks (mark m.Comma) d ds
      ≡ toks d ++ more_toks ds
  between_is d [] = sym (append-nil (toks d))
  between_is d (e ∷ es) = ap (λ t. toks d ++ mark m.Comma ∷ t) (between_is e es)

  -- each member behind a comma has a token
  enough : (ds : List D) → length ds ≤ length (more_toks ds)
  enough [] = omega arith
  enough (d ∷ ds) = omega (arith, enough ds, length-append (toks d) (more_toks ds))

  -- what is derived is read, where each is read before a comma and before the rest
  module _ (Fits : List Tok → Type 0) (comma : (ts : List Tok) → Fits (mark m.Comma ∷ ts))
      (some : (d : D) → 0 < length (toks d))
      (reads : (d : D) (rest : List Tok) → Fits rest
      → one (toks d ++ rest) ≡ Some (tree d, rest)) where
    fits_more : (ds : List D) (rest : List Tok) → Fits rest → Fits (more_toks ds ++ rest)
    fits_more [] rest f = f
    fits_more (d ∷ ds) rest f = comma _

    from_read : (ds : List D) (n : ℕ) (found : List T) (rest : List Tok) → length ds < n → Fits rest
        → sees_mark m.Comma rest ≡ false
        → listed_from one n found (more_toks ds ++ rest) ≡ Some (found ++ map tree ds, rest)
    unfolding listed_from after_mark sees_mark
    from_read ds zero found rest room f none = absurd (omega arith)
    from_read [] (suc n) found rest room f none =
        rw none (ap (λ xs. Some (xs, rest)) (sym (append-nil found)))
    from_read (d ∷ ds) (suc n) found rest room f none =
        rw (append_assoc (toks d) (more_toks ds) rest, reads d (more_toks ds ++ rest) (fits_more ds rest f))
        (from_read ds n (found ++ tree d ∷ []) rest (omega (arith, room)) f none
        ∙ ap (λ xs. Some (xs, rest)) (append_assoc found (tree d ∷ []) (map tree ds)))

    pub listed_read : (d : D) (ds : List D) (rest : List Tok) → Fits rest
        → sees_mark m.Comma rest ≡ false
        → comma_separated one (between_toks toks (mark m.Comma) d ds ++ rest)
        ≡ Some (tree d ∷ map tree ds, rest)
    unfolding comma_separated
    listed_read d ds rest f none =
        let room : length ds < length ((toks d ++ more_toks ds) ++ rest) =
        omega (arith, some d, enough ds, length-append (toks d ++ more_toks ds) rest, length-append (toks d) (more_toks ds)) in
        rw (between_is d ds)
        (rw (append_assoc (toks d) (more_toks ds) rest, reads d (more_toks ds ++ rest) (fits_more ds rest f))
        (from_read ds _ (tree d ∷ []) rest
        (rw (append_assoc (toks d) (more_toks ds) rest) at room) f none))

  -- what is read was derived, where each that is read was
  module _ (sound : (i : List Tok) (x : T) (rest : List Tok) → one i ≡ Some (x, rest)
      → Derived toks tree i x rest) where
    pub record Further (found : List T) (i : List Tok) (xs : List T)
        (rest : List Tok) : Type 0 where
      pub by : List D
      pub tokens : i ≡ more_toks by ++ rest
      pub stands : xs ≡ found ++ map tree by

    pub record Listed (i : List Tok) (xs : List T) (rest : List Tok) : Type 0 where
      pub first : D
      pub others : List D
      pub tokens : i ≡ between_toks toks (mark m.Comma) first others ++ rest
      pub stands : xs ≡ tree first ∷ map tree others

    from_sound : (n : ℕ) (found : List T) (i : List Tok) (xs : List T) (rest : List Tok)
        → listed_from one n found i ≡ Some (xs, rest) → Further found i xs rest
    unfolding listed_from after_mark
    from_sound zero found i xs rest h = absurd (cc)
    from_sound (suc n) found i xs rest h = elim (cases_Bool (sees_mark m.Comma i)) [
      | inl seen ↦
          let g = simp seen at h in
          let a = then_some (one (drop 1 i)) _ _ g in
          let d = sound _ _ _ a.1 in
          let b = from_sound n (found ++ a.0.0 ∷ []) a.0.1 xs rest a.2 in
          record {
            by = d.by ∷ b.by;
            tokens = mark_seen m.Comma i seen ∙ ap (λ t. mark m.Comma ∷ t)
                (d.tokens ∙ ap (λ t. toks d.by ++ t) b.tokens
                ∙ sym (append_assoc (toks d.by) (more_toks b.by) rest));
            stands = b.stands ∙ append_assoc found (a.0.0 ∷ []) (map tree b.by)
                ∙ ap (λ t. found ++ t ∷ map tree b.by) d.stands;
          }
      | inr none ↦
          let e = some_pair _ _ (simp none at h) in
          record { by = []; tokens = e.1; stands = sym e.0 ∙ sym (append-nil found) }
    ]

    pub listed_sound : (i : List Tok) (xs : List T) (rest : List Tok)
        → comma_separated one i ≡ Some (xs, rest) → Listed i xs rest
    unfolding comma_separated
    listed_sound i xs rest h =
        let a = then_some (one i) _ _ h in
        let d = sound i _ _ a.1 in
        let b = from_sound (length i) (a.0.0 ∷ []) a.0.1 xs rest a.2 in
        record {
          first = d.by;
          others = b.by;
          tokens = d.tokens ∙ ap (λ t. toks d.by ++ t) b.tokens
              ∙ sym (append_assoc (toks d.by) (more_toks b.by) rest)
              ∙ ap (λ t. t ++ rest) (sym (between_is d.by b.by));
          stands = b.stands ∙ ap (λ t. t ∷ map tree b.by) d.stands;
        }
