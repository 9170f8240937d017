-- Reading looks at what it reads alone: what is behind doesn't matter, and where it stops, no more
-- bytes help. So it is of one part behind another.
use Rattle.std.proofs.Common.{◌≡◌, refl, sym, ap, ◌∙◌, ℕ, ◌+◌, ◌<◌, ◌⊎◌, List, [], ◌++◌, length, append_assoc}
use Rattle.alt_fields.specs.Field.{told_length}
use Rattle.alt_schemabytes.specs.Parts.{ReadOutcome, got, stops, followed_by}
use Rattle.alt_schemabytes.proofs.Wholes.{got_value, got_rest, both_got}

-- bytes that give a value: a piece of theirs does, whatever follows
pub record Gives {A : Type 0} (R : List ℕ → ReadOutcome A) (bytes : List ℕ) (v : A)
    (rest : List ℕ) : Type 0 where
  pub piece : List ℕ
  pub is : bytes ≡ piece ++ rest
  pub alone : (z : List ℕ) → R (piece ++ z) ≡ got v z

-- a piece at the front of those behind, a byte or a whole field, with which reading stops at it,
-- whatever follows
pub record Wrong {A : Type 0} (R : List ℕ → ReadOutcome A) (front back : List ℕ) : Type 0 where
  pub piece : List ℕ
  pub behind : List ℕ
  pub is : back ≡ piece ++ behind
  pub whole : (length piece ≡ 1) ⊎ (length piece ≡ 8 + told_length back 0)
  pub alone : (z : List ℕ) → R (front ++ (piece ++ z)) ≡ stops (length (piece ++ z))

-- bytes that stop: those before the place are cut off, and if there are others, a wrong piece stands there
pub record Halts {A : Type 0} (R : List ℕ → ReadOutcome A) (bytes : List ℕ) (n : ℕ) : Type 0 where
  pub front : List ℕ
  pub back : List ℕ
  pub is : bytes ≡ front ++ back
  pub left : length back ≡ n
  pub cut : R front ≡ stops 0
  pub wrong : 0 < n → Wrong R front back

-- reading looks at what it reads alone
pub record Steady {A : Type 0} (R : List ℕ → ReadOutcome A) : Type 0 where
  pub gives : (bytes : List ℕ) (v : A) (rest : List ℕ) → R bytes ≡ got v rest → Gives R bytes v rest
  pub halts : (bytes : List ℕ) (n : ℕ) → R bytes ≡ stops n → Halts R bytes n

-- what was got isn't a stop
pub no_got : {A : Type 0} (x : A) (r : List ℕ) (n : ℕ) → got x r ≡ stops n → ⊥
no_got x r n e = cc

-- a stop has one place
pub stop_count : {A : Type 0} (m n : ℕ) → (let r : ReadOutcome A = stops m in r) ≡ stops n → m ≡ n
stop_count m n e = cc

-- a value that is made of nothing
pub pure : {A : Type 0} (v : A) → Steady (λ r. got v r)
pure v = record {
  gives = λ bytes w rest e. record {
    piece = [];
    is = got_rest v w bytes rest e;
    alone =
        λ z. ap (λ x. got x z) (got_value v w bytes rest e);
  };
  halts = λ bytes n e. absurd (no_got v bytes n e);
}

-- ---- one part behind another

module _ {A B : Type 0} (next : A → List ℕ → ReadOutcome B) (R : List ℕ → ReadOutcome A) (first : Steady R)
    (second : (x : A) → Steady (next x)) where
  both : List ℕ → ReadOutcome B
  both bytes = followed_by next (R bytes)

  gives_both : (bytes : List ℕ) (v : B) (rest : List ℕ) → followed_by next (R bytes) ≡ got v rest
      → Gives (λ b. followed_by next (R b)) bytes v rest
  gives_both bytes v rest e =
      let b = both_got next (R bytes) v rest e in
      let p = first.gives bytes b.x b.mid b.first in
      let q = (second b.x).gives b.mid v rest b.second in
      record {
        piece = p.piece ++ q.piece;
        is = p.is ∙ ap (λ m. p.piece ++ m) q.is ∙ sym (append_assoc p.piece q.piece rest);
        alone = λ z. ap (λ m. followed_by next (R m)) (append_assoc p.piece q.piece z)
            ∙ ap (followed_by next) (p.alone (q.piece ++ z)) ∙ q.alone z;
      }

  halts_first : (bytes : List ℕ) (n : ℕ) → R bytes ≡ stops n
      → Halts (λ b. followed_by next (R b)) bytes n
  halts_first bytes n e =
      let h = first.halts bytes n e in
      record {
        front = h.front;
        back = h.back;
        is = h.is;
        left = h.left;
        cut = ap (followed_by next) h.cut;
        wrong = λ some.
            let w = h.wrong some in
            record {
              piece = w.piece;
              behind = w.behind;
              is = w.is;
              whole = w.whole;
              alone = λ z. ap (followed_by next) (w.alone z);
            };
      }

  halts_second : (bytes : List ℕ) (x : A) (mid : List ℕ) (n : ℕ) → R bytes ≡ got x mid → next x mid
      ≡ stops n → Halts (λ b. followed_by next (R b)) bytes n
  halts_second bytes x mid n e f =
      let p = first.gives bytes x mid e in
      let h = (second x).halts mid n f in
      record {
        front = p.piece ++ h.front;
        back = h.back;
        is = p.is ∙ ap (λ m. p.piece ++ m) h.is ∙ sym (append_assoc p.piece h.front h.back);
        left = h.left;
        cut = ap (followed_by next) (p.alone h.front) ∙ h.cut;
        wrong = λ some.
            let w = h.wrong some in
            record {
              piece = w.piece;
              behind = w.behind;
              is = w.is;
              whole = w.whole;
              alone = λ z. ap (λ m. followed_by next (R m))
                  (append_assoc p.piece h.front (w.piece ++ z))
                  ∙ ap (followed_by next) (p.alone (h.front ++ (w.piece ++ z))) ∙ w.alone z;
            };
      }

  halts_both : (bytes : List ℕ) (r : ReadOutcome A) (n : ℕ) → R bytes ≡ r → followed_by next r ≡ stops n
      → Halts (λ b. followed_by next (R b)) bytes n
  halts_both bytes (got x mid) n e f = halts_second bytes x mid n e f
  halts_both bytes (stops m) n e f = halts_first bytes n (e ∙ ap stops (stop_count m n f))

  -- two parts, one behind the other, are looked at alone too
  pub steady_both : Steady (λ b. followed_by next (R b))
  steady_both = record {
    gives = gives_both;
    halts =
        λ bytes n e. halts_both bytes (R bytes) n refl e;
  }
