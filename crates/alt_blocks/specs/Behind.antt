-- A disk behind a cache.
use Rattle.std.specs.Prelude.{◌≡◌, ℕ, Bool, true, ◌∷◌, ◌||◌}
use Rattle.alt_disk.specs.Disk.{DiskState}
use Rattle.alt_disk.specs.declared.disk.Disk.{Ghosts}
use Rattle.alt_blocks.specs.declared.cache.BlockCache.{BlockCache}
use Rattle.alt_blocks.specs.declared.cached.Cached.{Cached}
use Rattle.alt_blocks.specs.Places.{cache_has_place}

-- the disk as it is, behind borrows of these names, with the reads that the cache can answer
abbrev pub disk_behind_cache : ℕ → ℕ → BlockCache → DiskState → DiskState
disk_behind_cache disk name cache s =
    record s {
      anchors = disk ∷ name ∷ s.anchors;
      cached =
          λ f at n. cache_has_place cache f at n || s.cached f at n;
    }

module _ {D : Type 0} {G : Ghosts D} where
  -- the disk, and the cache before it
  abbrev pub disk_of : Cached D G → D
  disk_of c = c.disk.now

  -- the cache in front of the disk
  abbrev pub cache_of : Cached D G → BlockCache
  cache_of c = c.cache.now

  -- the disk as the layers above see it
  abbrev pub state_of : Cached D G → DiskState
  state_of c = disk_behind_cache c.disk.ghost_name c.cache.ghost_name (cache_of c) (G.state (disk_of c))

  -- the names of the borrows of both
  abbrev pub names_of : Cached D G → ℕ × ℕ
  names_of c = (c.disk.ghost_name, c.cache.ghost_name)

-- a read that was answered, and of which the disk knows nothing
pub record Uncounted (old new : DiskState) (ok : Bool) : Type 0 where
  pub answered : ok ≡ true
  pub moment : new.moment ≡ old.moment
  pub reads : new.reads ≡ old.reads
  pub faults : new.faults ≡ old.faults
