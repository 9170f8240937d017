-- Keys by their kinds: values of one table or of one index.
use Rattle.std.specs.Prelude.{◌<◌, ◌^◌, List, [], ◌∷◌, Option, Some, None}
use Rattle.alt_decimal.specs.Number.{FitsDecimal}
use Rattle.alt_value.specs.declared.kind.KeyKind.{KeyKind}
use Rattle.alt_value.specs.declared.kind.KeyKind.TheVariants.{S, N, B}
use Rattle.alt_value.specs.Tree.{Tree, S_tree, N_tree, B_tree}
use Rattle.alt_keyorder.specs.Place.{Place}

-- a value of that kind that a key can have
abbrev pub IsOfKind : KeyKind → Tree → Type 0
IsOfKind S (S_tree s) = Unit {0}
IsOfKind N (N_tree z) = FitsDecimal z
IsOfKind B (B_tree b) = Unit {0}
IsOfKind _ _ = ⊥

-- values of these kinds, one by one
abbrev pub AreOfKinds : List KeyKind → List Tree → Type 0
AreOfKinds [] [] = Unit {0}
AreOfKinds [] (t ∷ ts) = ⊥
AreOfKinds (k ∷ ks) [] = ⊥
AreOfKinds (k ∷ ks) (t ∷ ts) = IsOfKind k t × AreOfKinds ks ts

-- a key of these kinds: a HASH value, and a RANGE value exactly where there is a kind for it
abbrev pub IsKeyFor : KeyKind → Option KeyKind → Tree → Option Tree → Type 0
IsKeyFor h None hash None = IsOfKind h hash
IsKeyFor h None hash (Some range) = ⊥
IsKeyFor h (Some r) hash None = ⊥
IsKeyFor h (Some r) hash (Some range) = IsOfKind h hash × IsOfKind r range

-- 8 bytes tell the token, and the parts are of these kinds
pub record IsPlaceOf (kinds : List KeyKind) (p : Place) : Type 0 where
  pub token : p.token < 2 ^ 64
  pub parts : AreOfKinds kinds p.parts
