-- From the reader to the grammar.
use Rattle.std.proofs.Common.{◌≡◌, ◌≢◌, false, refl, sym, ap, subst, ◌∙◌, ℕ, ◌+◌, ◌≤◌, List, [], length, Some, None, Ok, Err, arith, append-nil}
use Rattle.std.proofs.lemmas.Option.{none-some}
use Rattle.alt_expr.specs.Tokens.{Tok}
use Rattle.alt_expr.specs.Given.{Given}
use Rattle.alt_expr.specs.CondGrammar.{CondPhrase, cond_toks, cond_tree}
use Rattle.alt_expr.specs.Languages.{conditions}
use Rattle.alt_expr.specs.Crowded.{is_crowded}
use Rattle.alt_expr.specs.Read.{ReadsWhole}
use Rattle.alt_expr.proofs.Parsing.{whole_tree, whole_none}
use Rattle.alt_expr.specs.declared.fault.ExprFault.{ExprFault}
use Rattle.alt_expr.specs.declared.fault.ExprFault.TheVariants as fault
use Rattle.alt_expr.specs.declared.cond.Cond.{Cond}
use Rattle.alt_expr.proofs.Seen.{some_pair}
use Rattle.alt_expr.specs.CondReader.{any, one}
use Rattle.alt_expr.proofs.CondComplete.{cond_nest, cond_fits, whole_read}
use Rattle.alt_expr.proofs.CondSound.{any_sound, one_sound}

module _ (g : Given) (toks : List Tok) where
  -- what is read to the end is the tree
  pub read_all : (n : ℕ) (t : Cond) → any (one g n) toks ≡ Some (t, [])
      → ReadsWhole conditions g toks (Ok t)
  unfolding conditions
  read_all n t h =
      let d = any_sound g (one g n) (λ i x r. one_sound g n i x r) toks t [] h in
      whole_tree conditions g toks t (d.by, d.tokens ∙ append-nil (cond_toks d.by), d.stands)

  -- what is of the grammar is read to the end
  read_of : (n : ℕ) → n ≡ length toks → (d : CondPhrase) → toks ≡ cond_toks d
      → any (one g n) toks ≡ Some (cond_tree g d, [])
  read_of n room d is =
      let fits : cond_nest d ≤ n = omega (arith, room, ap length is, cond_fits d) in
      subst (λ i. any (one g n) i ≡ Some (cond_tree g d, [])) (sym is) (whole_read g d n fits)

  -- what leaves something isn't of the grammar
  pub read_part : (n : ℕ) (t : Cond) (rest : List Tok) → n ≡ length toks
      → any (one g n) toks ≡ Some (t, rest) → (rest ≡ [] → ⊥)
      → ReadsWhole conditions g toks (Err fault.Syntax)
  unfolding conditions
  read_part n t rest room h more =
      whole_none conditions g toks fault.Syntax
      (λ other. (refl, λ p. more (some_pair _ _ (sym h ∙ read_of n room p.0 p.1)).1))

  -- what isn't read isn't either
  pub read_none : (n : ℕ) (f : ExprFault) → n ≡ length toks
      → (f ≢ fault.NoMemory → (any (one g n) toks ≡ None) × (f ≡ fault.Syntax))
      → ReadsWhole conditions g toks (Err f)
  unfolding conditions
  read_none n f room h =
      whole_none conditions g toks f (λ other. let e = h other in
      (e.1, λ p. let r = read_of n room p.0 p.1 in absurd (none-some _ (sym e.0 ∙ r))))

-- tokens have one tree
pub one_tree : (g : Given) (d e : CondPhrase) → cond_toks d ≡ cond_toks e
    → cond_tree g d ≡ cond_tree g e
one_tree g d e same =
    let n : ℕ = cond_nest d + cond_nest e in
    let a = whole_read g d n (omega arith) in
    let b = whole_read g e n (omega arith) in
    (some_pair _ _ (sym a ∙ ap (λ i. any (one g n) i) same ∙ b)).0

-- the same of the language, whose texts repeat no clause and whose paths may overlap
pub unique : (g : Given) (d e : CondPhrase) → conditions.toks d ≡ conditions.toks e
    → conditions.tree g d ≡ conditions.tree g e
unfolding conditions
unique g d e same = one_tree g d e same

-- a condition repeats no clause
pub never_repeats : (d : CondPhrase) → conditions.repeats d ≡ false
unfolding conditions
never_repeats d = refl

-- nor does it name paths that overlap
pub never_overlaps : (t : Cond) → conditions.overlaps t ≡ false
unfolding conditions
never_overlaps t = refl

-- the language's test for crowded trees is that of conditions
pub crowded_is : (t : Cond) → conditions.is_crowded t ≡ is_crowded t
unfolding conditions
crowded_is t = refl
