-- What turns come to, one list of turns after another.
use Rattle.std.proofs.Common.{◌≡◌, List, [], ◌∷◌, ◌++◌, None, refl, ap, sym, ◌∙◌, append_assoc}
use Rattle.std.proofs.lemmas.Grind.{flat_map-append}
use Rattle.alt_machine.specs.State.{State}
use Rattle.alt_talks.specs.Turns.{DoesWrite, Turn, WritesLast, turns_text, after, after_turn, or_next, wanted_by_turns}
use Rattle.alt_talks.proofs.TalkFolds.{first_none}

-- what is said in all
pub text_of-append : (ts us : List Turn) → turns_text (ts ++ us) ≡ turns_text ts ++ turns_text us
text_of-append ts us = flat_map-append (λ (t : Turn). t.text) ts us

-- the state after all
pub after-append : (s : State) (ts us : List Turn) → after s (ts ++ us) ≡ after (after s ts) us
after-append s [] us = refl
after-append s (t ∷ ts) us = after-append (after_turn s t) ts us

-- what is wanted where the first turns had all that they wanted
pub wanted-append : (ts us : List Turn) → wanted_by_turns ts ≡ None → wanted_by_turns (ts ++ us) ≡ wanted_by_turns us
wanted-append [] us e = refl
wanted-append (t ∷ ts) us e =
    let here = first_none t.lacks (wanted_by_turns ts) e in
    ap (λ w. or_next w (wanted_by_turns (ts ++ us))) here.0 ∙ wanted-append ts us here.1

-- the last of these turns writes something behind others that lacked nothing
pub writes_behind : (ts us : List Turn) → wanted_by_turns ts ≡ None → WritesLast us → WritesLast (ts ++ us)
writes_behind ts us enough w = record {
  before = ts ++ w.before;
  turn = w.turn;
  parts = ap (λ vs. ts ++ vs) w.parts ∙ sym (append_assoc ts w.before (w.turn ∷ []));
  enough = wanted-append ts w.before enough ∙ w.enough;
  writes = w.writes;
}

-- one turn writes something
pub writes_one : (t : Turn) → DoesWrite t → WritesLast (t ∷ [])
writes_one t w = record { before = []; turn = t; parts = refl; enough = refl; writes = w }
