-- Each text is of a grammar or has a first fault, where each list of tokens is known to be of it or not.
use Rattle.std.proofs.Common.{◌≡◌, ◌≢◌, refl, sym, ◌∙◌, ℕ, ◌<◌, ◌≤◌, ◌⊎◌, inl, inr, Bool, true, false, List, length, Ok, Err}
use Rattle.std.specs.Prelude.{Result}
use Rattle.std.specs.List.{list_any}
use Rattle.std.proofs.lemmas.Bool.{cases_lt}
use Rattle.alt_expr.specs.Faults.{Language}
use Rattle.alt_expr.specs.Given.{Given, is_unknown}
use Rattle.alt_expr.specs.Nesting.{NestsTooDeep}
use Rattle.alt_expr.specs.Read.{IsTree, ReadsWhole, ReadTokens}
use Rattle.alt_expr.specs.Told.{Told, IsTold}
use Rattle.alt_expr.specs.Tokens.{Tok}
use Rattle.alt_expr.specs.Walks.{is_deep}
use Rattle.alt_expr.specs.declared.fault.ExprFault.{ExprFault}
use Rattle.alt_expr.specs.declared.fault.ExprFault.TheVariants as fault
use Rattle.alt_expr.proofs.Deep.{deep_is}
use Rattle.alt_expr.proofs.Parsing.{parsed_too_long, parsed_by_tokens, read_too_deep, read_cut, read_err, read_undefined, read_too_many, read_repeated, read_overlap, read_tree, tree_read}
use Rattle.alt_expr.proofs.PlainFacts.{clash}
use Rattle.alt_expr.proofs.TextTokens.{tokens_of}

module _ {D A : Type 0} (L : Language D A) (g : Given) where
  told_ok : (t : A) → IsTold {A = A} (Ok t)
  told_ok t e = let f : ⊥ = cc in f

  told_err : (f : ExprFault) → f ≢ fault.NoMemory → IsTold {A = A} (Err f)
  told_err f other e = other (let same : f ≡ fault.NoMemory = cc in same)

  -- the tree of tokens, or that they are of no phrase
  pub record ReadAs (toks : List Tok) : Type 0 where
    pub result : Result A ExprFault
    pub reads : ReadsWhole L g toks result
    pub told : IsTold result

  -- tokens of a phrase
  pub as_tree : (toks : List Tok) (t : A) → ReadsWhole L g toks (Ok t) → ReadAs toks
  as_tree toks t h = record { result = Ok t; reads = h; told = told_ok t }

  -- tokens of none
  pub as_none : (toks : List Tok) → ReadsWhole L g toks (Err fault.Syntax) → ReadAs toks
  as_none toks h = record {
    result = Err fault.Syntax;
    reads = h;
    told = told_err fault.Syntax (λ e. cc);
  }

  -- what there is to tell of tokens
  record ToldOf (toks : List Tok) (whole : Bool) : Type 0 where
    result : Result A ExprFault
    read : ReadTokens L g toks whole result
    told : IsTold result

  module _ (one_tree : (d e : D) → L.toks d ≡ L.toks e → L.tree g d ≡ L.tree g e)
      (same_clauses : (d e : D) → L.toks d ≡ L.toks e → L.repeats d ≡ L.repeats e) where
    module _ (toks : List Tok) (whole : Bool) where
      told_fault : (f : ExprFault) → f ≢ fault.NoMemory
          → ReadTokens L g toks whole (Err f) → ToldOf toks whole
      told_fault f other h = record { result = Err f; read = h; told = told_err f other }

      module _ (shallow : NestsTooDeep toks → ⊥) (is_whole : whole ≡ true) (t : A)
          (tree : IsTree L g toks t) where
        same : (d : D) → toks ≡ L.toks d → L.repeats d ≡ L.repeats tree.0
        same d is = same_clauses d tree.0 (sym is ∙ tree.1)

        -- the faults of a tree in their order, each told by a test
        of_tests : (unknown crowded repeats overlaps : Bool)
            → list_any (is_unknown g) toks ≡ unknown → L.is_crowded t ≡ crowded
            → L.repeats tree.0 ≡ repeats → L.overlaps t ≡ overlaps → ToldOf toks whole
        of_tests true crowded repeats overlaps u c r o = told_fault fault.Undefined (λ e. cc)
            (read_undefined L g toks whole shallow is_whole t tree one_tree u)
        of_tests false true repeats overlaps u c r o = told_fault fault.TooMany (λ e. cc)
            (read_too_many L g toks whole shallow is_whole t tree one_tree u c)
        of_tests false false true overlaps u c r o = told_fault fault.RepeatedClause (λ e. cc)
            (read_repeated L g toks whole shallow is_whole t tree one_tree u c same r)
        of_tests false false false true u c r o = told_fault fault.Overlap (λ e. cc)
            (read_overlap L g toks whole shallow is_whole t tree one_tree u c same r o)
        of_tests false false false false u c r o = record {
          result = Ok t;
          read = read_tree L g toks whole shallow is_whole t tree one_tree u c same r o;
          told = told_ok t;
        }

        of_tree : ToldOf toks whole
        of_tree = of_tests (list_any (is_unknown g) toks) (L.is_crowded t) (L.repeats tree.0)
            (L.overlaps t) refl refl refl refl

      of_reading : (NestsTooDeep toks → ⊥) → whole ≡ true → (r : Result A ExprFault)
          → ReadsWhole L g toks r → IsTold r → ToldOf toks whole
      of_reading shallow is_whole (Ok t) reads told =
          of_tree shallow is_whole t (tree_read L g toks t reads)
      of_reading shallow is_whole (Err f) reads told = record {
        result = Err f;
        read = read_err L g toks whole f shallow reads;
        told = told;
      }

      told_of : ReadAs toks → ToldOf toks whole
      told_of found = by (is_deep toks) whole refl refl
        where
          by : (deep b : Bool) → is_deep toks ≡ deep → whole ≡ b → ToldOf toks whole
          by true b d w = told_fault fault.TooDeep (λ e. cc)
              (read_too_deep L g toks whole ((deep_is toks).0 d))
          by false false d w = told_fault fault.Syntax (λ e. cc)
              (read_cut L g toks whole
              (λ deep. clash (is_deep toks) ((deep_is toks).1 deep) d) w)
          by false true d w = of_reading
              (λ deep. clash (is_deep toks) ((deep_is toks).1 deep) d) w
              found.result found.reads found.told

    -- what a text is of the grammar over what is given, or its first fault
    pub text_told : ((toks : List Tok) → ReadAs toks) → (text : List ℕ) → Told L g text
    text_told read text = by (cases_lt 4096 (length text))
      where
        by : (4096 < length text) ⊎ (length text ≤ 4096) → Told L g text
        by (inl long) = record {
          result = Err fault.TooLong;
          parsed = parsed_too_long L g text long;
          told = told_err fault.TooLong (λ e. cc);
        }
        by (inr short) =
            let tokens = tokens_of text in
            let found = told_of tokens.toks tokens.whole (read tokens.toks) in record {
              result = found.result;
              parsed = parsed_by_tokens L g text tokens.toks tokens.whole tokens.lexes short
                  found.result found.read;
              told = found.told;
            }
