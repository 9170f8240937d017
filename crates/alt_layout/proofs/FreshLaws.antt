-- The files of a fresh store: its version is a version, and there are no rows.
use Rattle.std.proofs.Common.{◌≡◌, ◌<◌, ◌^◌, ℕ, List, [], ◌∷◌, length, Some, refl, sym, ap, subst, ◌∙◌, arith}
use Rattle.std.specs.FinMap.{empty}
use Rattle.alt_gatelog.specs.Log.{log_bytes}
use Rattle.alt_gatelog.specs.declared.form.Form.TheVariants.{One, Two}
use Rattle.alt_layout.specs.Fresh.{entries_file, first_version, versions_file}
use Rattle.alt_layout.specs.Layout.{no_rows}
use Rattle.alt_manifest.specs.Versions.{IsVersion, version_bytes}
use Rattle.alt_manifest.specs.declared.version.Version.{Version}
use Rattle.alt_layout.specs.Files.{Image, IsLayout}

-- the first version of a store
abbrev fresh : Version
fresh = record { next_file = 3; next_number = 1; segments = 2 ∷ []; families = [] }

-- its bytes
fresh_bytes : version_bytes fresh ≡ first_version
unfolding version_bytes first_version
fresh_bytes = refl

-- they are short
short : length first_version < 2 ^ 64
unfolding first_version
short = omega arith

-- it is one
fresh_is : IsVersion fresh
fresh_is = record {
  next_file = omega arith;
  next_number = (omega arith, omega arith);
  some = omega arith;
  segments = (omega arith, tt);
  count = omega arith;
  rising = tt;
  families = tt;
  families_count = omega arith;
  below = (omega arith, tt);
  differ = ((λ here. here), tt);
}

pub fresh_layout : (image : Image)
    → image versions_file ≡ Some (log_bytes One (first_version ∷ []) 0 [])
    → image entries_file ≡ Some (log_bytes Two [] 0 []) → IsLayout image no_rows
fresh_layout image versions entries = record {
  version = fresh;
  last = record {
    before = [];
    log = record {
      gate = 0;
      closed = omega arith;
      rest = [];
      is = versions ∙ ap (λ (bytes : List ℕ). Some (log_bytes One (bytes ∷ []) 0 [])) (sym fresh_bytes);
      lengths = (subst (λ (bytes : List ℕ). length bytes < 2 ^ 64) (sym fresh_bytes) short, tt);
    };
    is = fresh_is;
  };
  held = λ _. empty;
  parts = [] ∷ [];
  stored = record {
    files = tt;
    segments = (
      record {
        form = Two;
        entries = [];
        log = record { gate = 0; closed = omega arith; rest = []; is = entries; lengths = tt };
        holds = record { groups = []; each = tt; are = refl };
      },
      tt,
    );
    writes = tt;
    rising = tt;
  };
  is = refl;
}
