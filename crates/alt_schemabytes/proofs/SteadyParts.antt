-- The reading of single parts is steady: numbers, texts, names, bytes, and many of one kind.
use Rattle.std.proofs.Common.{◌≡◌, refl, sym, ap, subst, ◌∙◌, ℕ, zero, suc, ◌+◌, ◌<◌, inl, inr, Bool, true, false, cond, ◌&&◌, ◌==◌, nat_le, if◌then◌else◌, List, [], ◌∷◌, ◌++◌, length, take, drop, Option, Some, None, arith, length-append}
use Rattle.std.specs.Int.{w32, w64, from_be_bytes}
use Rattle.std.specs.List.{find}
use Rattle.std.specs.Option.{option_map_or}
use Rattle.std.specs.Str.{is_utf8}
use Rattle.std.proofs.lemmas.List.{append-nil, take-append-drop, length-take-le, length-drop, take_at, drop_at}
use Rattle.std.proofs.lemmas.Bool.{le-leb}
use Rattle.alt_fields.specs.Field.{told_length}
use Rattle.alt_schemabytes.specs.Parts.{ReadOutcome, got, stops, followed_by, read_bytes, read_u64, read_u32, read_field, read_name, read_byte, read_more, read_counted}
use Rattle.alt_schemabytes.proofs.Wholes.{got_value, got_rest, no_stop, both_got, within, passes, bytes_got, some_got}
use Rattle.alt_schemabytes.proofs.Steady.{Gives, Halts, Steady, no_got, stop_count, pure, steady_both}

-- where there weren't bytes enough, it stops at the end
outside : {A : Type 0} (k m : ℕ) (x : A) (r : List ℕ) (n : ℕ)
    → (if nat_le k m then got x r else stops 0) ≡ stops n → 0 ≡ n
outside k m x r n e =
    (elim (nat_le k m) as (λ b. cond b (got x r) (stops 0) ≡ stops n → 0 ≡ n) [
      | true ↦ λ f. absurd (no_got x r n f)
      | false ↦ λ f. stop_count 0 n f
    ]) e

-- a stop at the end
halts_at_end : {A : Type 0} (R : List ℕ → ReadOutcome A) (bytes : List ℕ) (n : ℕ) → R bytes ≡ stops n → 0
    ≡ n → Halts R bytes n
halts_at_end R bytes n e z = record {
  front = bytes;
  back = [];
  is = sym (append-nil bytes);
  left = z;
  cut = e ∙ ap stops (sym z);
  wrong = λ some. absurd (omega arith);
}

-- so many bytes, of which a value is made
fixed : {A : Type 0} (k : ℕ) (f : List ℕ → A)
    → Steady (λ b. if nat_le k (length b) then got (f (take k b)) (drop k b) else stops 0)
fixed k f = record {
  gives = λ bytes v rest e.
      let w = within k (length bytes) (got (f (take k bytes)) (drop k bytes)) 0 v rest e in
      let n : length (take k bytes) ≡ k = length-take-le k bytes w.0 in
      record {
        piece = take k bytes;
        is = sym (take-append-drop k bytes) ∙ ap (λ m. take k bytes ++ m) (got_rest _ _ _ _ w.1);
        alone = λ z.
            ap (λ b. cond b (got (f (take k (take k bytes ++ z))) (drop k (take k bytes ++ z)))
            (stops 0)) (le-leb k (length (take k bytes ++ z))
            (omega (arith, n, length-append (take k bytes) z)))
            ∙ (λ j. got (f (take_at (take k bytes) z k n j)) (drop_at (take k bytes) z k n j))
            ∙ ap (λ x. got x z) (got_value _ _ _ _ w.1);
      };
  halts = λ bytes n e. halts_at_end _ bytes n e
      (outside k (length bytes) (f (take k bytes)) (drop k bytes) n e);
}

-- numbers
pub u64 : Steady read_u64
unfolding read_u64
u64 = fixed 8 (from_be_bytes w64)

-- the same of 4 bytes
pub u32 : Steady read_u32
unfolding read_u32
u32 = fixed 4 (from_be_bytes w32)

-- so many bytes
content : (n : ℕ) → Steady (read_bytes n)
unfolding read_bytes
content n = fixed n (λ b. b)

-- fields
field_steady : Steady read_field
unfolding read_field
field_steady = steady_both read_bytes read_u64 u64 content

-- a field that is read has the length that it tells
field_whole : (bytes x mid : List ℕ) → read_field bytes ≡ got x mid
    → length bytes ≡ (8 + told_length bytes 0) + length mid
unfolding read_field read_u64
field_whole bytes x mid e =
    let b = both_got read_bytes (read_u64 bytes) x mid e in
    let w = within 8 (length bytes)
    (got (from_be_bytes w64 (take 8 bytes)) (drop 8 bytes)) 0 b.x b.mid b.first in
    let told : told_length bytes 0 ≡ b.x = got_value _ _ _ _ w.1 in
    let rest : drop 8 bytes ≡ b.mid = got_rest _ _ _ _ w.1 in
    let c = bytes_got b.x b.mid x mid b.second in
    omega (
      arith,
      told,
      w.0,
      ap length rest,
      length-drop 8 bytes,
      ap length c.0,
      length-append x mid,
      c.1,
    )

-- a text that isn't taken failed its test
pub name_fails : (test : List ℕ → Bool) (x mid : List ℕ) (k n : ℕ)
    → (if is_utf8 x && test x then got x mid else stops k) ≡ stops n
    → ((is_utf8 x && test x) ≡ false) × (k ≡ n)
name_fails test x mid k n e =
    (elim (is_utf8 x && test x) as
    (λ b. (is_utf8 x && test x) ≡ b → cond b (got x mid) (stops k) ≡ stops n
    → ((is_utf8 x && test x) ≡ false) × (k ≡ n)) [
      | true ↦ λ t f. absurd (no_got x mid n f)
      | false ↦ λ t f. (t, stop_count k n f)
    ]) refl e

-- a text that is read, whatever follows
name_gives : (test : List ℕ → Bool) (bytes v rest : List ℕ) → read_name test bytes ≡ got v rest
    → Gives (read_name test) bytes v rest
unfolding read_name
name_gives test bytes v rest e =
    let b = both_got (λ s r. if is_utf8 s && test s then got s r else stops (length bytes))
    (read_field bytes) v rest e in
    let p = field_steady.gives bytes b.x b.mid b.first in
    let q = passes (is_utf8 b.x && test b.x) (got b.x b.mid) (length bytes) v rest b.second in
    record {
      piece = p.piece;
      is = p.is ∙ ap (λ m. p.piece ++ m) (got_rest _ _ _ _ q.1);
      alone = λ z.
          ap (followed_by (λ s r. if is_utf8 s
          && test s then got s r else stops (length (p.piece ++ z)))) (p.alone z)
          ∙ ap (λ t. cond t (got b.x z) (stops (length (p.piece ++ z)))) q.0
          ∙ ap (λ x. got x z) (got_value _ _ _ _ q.1);
    }

-- where no text is read, whatever follows
name_halts : (test : List ℕ → Bool) (bytes : List ℕ) (r : ReadOutcome (List ℕ)) (n : ℕ) → read_field bytes
    ≡ r
    → followed_by (λ s q. if is_utf8 s && test s then got s q else stops (length bytes)) r ≡ stops n
    → Halts (read_name test) bytes n
unfolding read_name read_field read_u64
name_halts test bytes (stops m) n e f =
    let h = field_steady.halts bytes m e in
    let same : m ≡ n = stop_count m n f in
    record {
      front = h.front;
      back = h.back;
      is = h.is;
      left = h.left ∙ same;
      cut = ap (followed_by (λ s q. if is_utf8 s
          && test s then got s q else stops (length h.front))) h.cut;
      wrong = λ some.
          let w = h.wrong (subst (λ k. 0 < k) (sym same) some) in
          record {
            piece = w.piece;
            behind = w.behind;
            is = w.is;
            whole = w.whole;
            alone = λ z.
                ap (followed_by (λ s q. if is_utf8 s
                && test s then got s q else stops (length (h.front ++ (w.piece ++ z)))))
                (w.alone z);
          };
    }
name_halts test bytes (got x mid) n e f =
    let t = name_fails test x mid (length bytes) n f in
    let p = field_steady.gives bytes x mid e in
    record {
      front = [];
      back = bytes;
      is = refl;
      left = t.1;
      cut = refl;
      wrong = λ some. record {
        piece = p.piece;
        behind = mid;
        is = p.is;
        whole = inr (omega (
          arith,
          field_whole bytes x mid e,
          ap length p.is,
          length-append p.piece mid,
        ));
        alone = λ z.
            ap (followed_by (λ s q. if is_utf8 s
            && test s then got s q else stops (length (p.piece ++ z)))) (p.alone z)
            ∙ ap (λ b. cond b (got x z) (stops (length (p.piece ++ z)))) t.0;
      };
    }

-- texts that pass a test
pub name : (test : List ℕ → Bool) → Steady (read_name test)
unfolding read_name
name test = record {
  gives = name_gives test;
  halts =
      λ bytes n e. name_halts test bytes (read_field bytes) n refl e;
}

-- a byte that stops stands for none
pub none_stops : {A : Type 0} (o : Option A) (rest : List ℕ) (k n : ℕ)
    → option_map_or (λ x. got x rest) o (stops k) ≡ stops n → (o ≡ None) × (k ≡ n)
none_stops None rest k n e = (refl, stop_count k n e)
none_stops (Some x) rest k n e = absurd (no_got x rest n e)

-- a byte that is read, whatever follows
byte_gives : {A : Type 0} (byte_of : A → ℕ) (values : List A) (bytes : List ℕ) (v : A)
    (rest : List ℕ) → read_byte byte_of values bytes ≡ got v rest
    → Gives (read_byte byte_of values) bytes v rest
unfolding read_byte
byte_gives byte_of values [] v rest e = absurd (no_stop 0 v rest e)
byte_gives byte_of values (b ∷ bytes) v rest e =
    let s = some_got (find (λ y. b == byte_of y) values) bytes (suc (length bytes)) v rest e in
    record {
      piece = b ∷ [];
      is = ap (λ m. b ∷ m) s.1;
      alone =
          λ z. ap (λ o. option_map_or (λ x. got x z) o (stops (suc (length z)))) s.0;
    }

-- where no byte is read, whatever follows
byte_halts : {A : Type 0} (byte_of : A → ℕ) (values : List A) (bytes : List ℕ) (n : ℕ)
    → read_byte byte_of values bytes ≡ stops n
    → Halts (read_byte byte_of values) bytes n
unfolding read_byte
byte_halts byte_of values [] n e = halts_at_end (read_byte byte_of values) [] n e (stop_count 0 n e)
byte_halts byte_of values (b ∷ bytes) n e =
    let s = none_stops (find (λ y. b == byte_of y) values) bytes (suc (length bytes)) n e in
    record {
      front = [];
      back = b ∷ bytes;
      is = refl;
      left = s.1;
      cut = refl;
      wrong = λ some. record {
        piece = b ∷ [];
        behind = bytes;
        is = refl;
        whole = inl refl;
        alone =
            λ z. ap (λ o. option_map_or (λ x. got x z) o (stops (suc (length z)))) s.0;
      };
    }

-- bytes that stand for some values
pub byte : {A : Type 0} (byte_of : A → ℕ) (values : List A) → Steady (read_byte byte_of values)
byte byte_of values = record {
  gives = byte_gives byte_of values;
  halts =
      byte_halts byte_of values;
}

-- so many parts
more : {A : Type 0} (R : List A → List ℕ → ReadOutcome A) → ((before : List A) → Steady (R before))
    → (n : ℕ) (before : List A) → Steady (read_more R n before)
unfolding read_more
more R each zero before = pure before
more R each (suc n) before = steady_both (λ x rest. read_more R n (before ++ x ∷ []) rest)
    (R before) (each before) (λ x. more R each n (before ++ x ∷ []))

-- a count and so many parts
pub many : {A : Type 0} (R : List A → List ℕ → ReadOutcome A) →
    ((before : List A) → Steady (R before))
    → Steady (read_counted R)
unfolding read_counted
many R each = steady_both (λ n rest. read_more R n [] rest) read_u64 u64 (λ n. more R each n [])
