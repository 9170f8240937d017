-- Words are noted exactly where a text was parsed.
use Rattle.std.proofs.Common.{◌≡◌, ◌≢◌, subst, ℕ, Bool, true, List, Ok, Err}
use Rattle.alt_expr.specs.Tokens.{Tok}
use Rattle.alt_expr.specs.Given.{with_hashes, with_colons}
use Rattle.alt_expr.specs.Lexed.{Lexes}
use Rattle.alt_expr.specs.Faults.{NotesHashes, NotesColons}
use Rattle.alt_expr.specs.NamesGiven.{used_names, used_values}
use Rattle.alt_expr.specs.declared.fault.ExprFault.{ExprFault}
use Rattle.alt_expr.specs.declared.fault.ExprFault.TheVariants as fault
use Rattle.alt_expr.specs.declared.names.Names.{Names}
use Rattle.alt_expr.specs.declared.values.Values.{Values}

-- a text that was parsed has its words for names noted
pub notes_hashes : {A : Type 0} (text : List ℕ) (toks : List Tok) (whole : Bool) (old new : Names)
    (a : A) → Lexes text toks whole → whole ≡ true
    → used_names new ≡ with_hashes toks (used_names old) → NotesHashes text old new (Ok a)
unfolding NotesHashes
notes_hashes text toks whole old new a lexes w is = (toks, subst (Lexes text toks) w lexes, is)

-- one that wasn't has none noted
pub no_hashes : (A : Type 0) (text : List ℕ) (old new : Names) (f : ExprFault)
    → (f ≢ fault.NoMemory → used_names new ≡ used_names old)
    → NotesHashes {A = A} text old new (Err f)
unfolding NotesHashes
no_hashes A text old new f h = h

-- a text that was parsed has its words for values noted
pub notes_colons : {A : Type 0} (text : List ℕ) (toks : List Tok) (whole : Bool) (old new : Values)
    (a : A) → Lexes text toks whole → whole ≡ true
    → used_values new ≡ with_colons toks (used_values old) → NotesColons text old new (Ok a)
unfolding NotesColons
notes_colons text toks whole old new a lexes w is = (toks, subst (Lexes text toks) w lexes, is)

-- one that wasn't has none noted
pub no_colons : (A : Type 0) (text : List ℕ) (old new : Values) (f : ExprFault)
    → (f ≢ fault.NoMemory → used_values new ≡ used_values old)
    → NotesColons {A = A} text old new (Err f)
unfolding NotesColons
no_colons A text old new f h = h
