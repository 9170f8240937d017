-- Paths: from the reader to the grammar.
use Rattle.std.proofs.Common.{◌≡◌, ◌≢◌, refl, sym, ap, subst, ◌∙◌, ◌<◌, false, List, [], length, Some, None, Ok, Err, arith, append-nil}
use Rattle.std.proofs.lemmas.Option.{none-some}
use Rattle.std.specs.List.{list_any}
use Rattle.alt_expr.specs.Given.{Given}
use Rattle.alt_expr.specs.Tokens.{Tok}
use Rattle.alt_expr.specs.declared.token.Mark.TheVariants as m
use Rattle.alt_expr.specs.declared.path.PathPart.{PathPart}
use Rattle.alt_expr.specs.declared.fault.ExprFault.{ExprFault}
use Rattle.alt_expr.specs.declared.fault.ExprFault.TheVariants as fault
use Rattle.alt_expr.specs.Crowded.{is_long}
use Rattle.alt_expr.specs.Languages.{projections}
use Rattle.alt_expr.specs.PathGrammar.{PathPhrase, path, path_toks, path_tree}
use Rattle.alt_expr.specs.PathsGrammar.{PathsPhrase, paths, paths_toks, paths_tree, some_overlap}
use Rattle.alt_expr.specs.Read.{ReadsWhole}
use Rattle.alt_expr.specs.Reader as r
use Rattle.alt_expr.specs.Reader.{sees_mark, comma_separated}
use Rattle.alt_expr.proofs.Seen.{some_pair}
use Rattle.alt_expr.proofs.PathRead.{Ends, path_read, ends_comma, ends_nothing}
use Rattle.alt_expr.proofs.PathFound.{path_sound}
use Rattle.alt_expr.proofs.Lists.{listed_read, listed_sound}
use Rattle.alt_expr.proofs.Parsing.{whole_tree, whole_none}

pub path_some : (d : PathPhrase) → 0 < length (path_toks d)
path_some (path n ss) = omega arith

no_comma_end : sees_mark m.Comma [] ≡ false
unfolding sees_mark
no_comma_end = refl

module _ (g : Given) where
  -- what a phrase derives is read as its tree
  pub whole_read : (d : PathsPhrase) → comma_separated (r.path g.names) (paths_toks d)
      ≡ Some (paths_tree g d, [])
  whole_read (paths p ps) =
      rw append-nil at
      (listed_read path_toks (path_tree g.names) (r.path g.names) Ends ends_comma path_some
      (path_read g.names) p ps [] ends_nothing no_comma_end)

  module _ (toks : List Tok) where
    read_of : (d : PathsPhrase) → toks ≡ paths_toks d
        → comma_separated (r.path g.names) toks ≡ Some (paths_tree g d, [])
    read_of d is =
        subst (λ i. comma_separated (r.path g.names) i ≡ Some (paths_tree g d, [])) (sym is) (whole_read d)

    pub read_all : (t : List (List PathPart)) → comma_separated (r.path g.names) toks ≡ Some (t, [])
        → ReadsWhole projections g toks (Ok t)
    unfolding projections
    read_all t h =
        let d = listed_sound path_toks (path_tree g.names) (r.path g.names)
        (path_sound g.names) toks t [] h in
        whole_tree projections g toks t (paths d.first d.others, d.tokens ∙ append-nil (paths_toks (paths d.first d.others)), d.stands)

    pub read_part : (t : List (List PathPart)) (rest : List Tok)
        → comma_separated (r.path g.names) toks ≡ Some (t, rest) → (rest ≡ [] → ⊥)
        → ReadsWhole projections g toks (Err fault.Syntax)
    unfolding projections
    read_part t rest h more =
        whole_none projections g toks fault.Syntax
        (λ other. (refl, λ p. more (some_pair _ _ (sym h ∙ read_of p.0 p.1)).1))

    pub read_none : (f : ExprFault)
        → (f ≢ fault.NoMemory → (comma_separated (r.path g.names) toks ≡ None) × (f ≡ fault.Syntax))
        → ReadsWhole projections g toks (Err f)
    unfolding projections
    read_none f h =
        whole_none projections g toks f (λ other. let e = h other in
        (e.1, λ p. absurd (none-some _ (sym e.0 ∙ read_of p.0 p.1))))

  -- tokens have one tree
  pub one_tree : (d e : PathsPhrase) → paths_toks d ≡ paths_toks e → paths_tree g d ≡ paths_tree g e
  one_tree d e same =
      (some_pair _ _ (sym (whole_read d) ∙ ap (comma_separated (r.path g.names)) same ∙ whole_read e)).0

  -- one list of tokens has one tree
  pub unique : (d e : PathsPhrase) → projections.toks d ≡ projections.toks e
      → projections.tree g d ≡ projections.tree g e
  unfolding projections
  unique d e same = one_tree d e same

-- paths repeat no clause
pub never_repeats : (d : PathsPhrase) → projections.repeats d ≡ false
unfolding projections
never_repeats d = refl

-- the language's test for overlaps is that of paths
pub overlaps_is : (t : List (List PathPart)) → projections.overlaps t ≡ some_overlap t
unfolding projections
overlaps_is t = refl

-- its test for crowded trees is whether a path is too long
pub crowded_is : (t : List (List PathPart)) → projections.is_crowded t ≡ list_any is_long t
unfolding projections
crowded_is t = refl
