-- The classes of workunits and of hosts, as their rows give them.
use Rattle.std.specs.Prelude.{◌≡◌, ◌≢◌, ℕ, ◌+◌, ◌<◌, List, length, map, slice_index_or}
use Rattle.std.specs.Cmp.Lexicographic.{slice_cmp}
use Rattle.std.specs.Ordering.{nat_cmp}
use Rattle.std.specs.declared.cmp.Ordering.{Ordering}
use Rattle.std.specs.declared.cmp.Ordering.TheVariants.{Less}
use Rattle.wu_core.specs.declared.workunit.HostClass.{HostClass}
use Rattle.wu_core.specs.declared.workunit.Workunit.{Workunit}
use Rattle.wu_store.specs.Loading.{classless}
use Rattle.wu_loader.specs.Rows.{classed_of}
use Rattle.wu_loader.specs.declared.rows.Classed.{Classed}

-- The workunits, with these classes set.
pub record AreClassedBy (workunits : List Workunit) (given : List Classed) (classed : List Workunit) : Type 0 where
  pub same : map classless classed ≡ map classless workunits
  pub classes : map classed_of classed ≡ given

-- The numbers of the workunits.
abbrev pub numbers : List Workunit → List ℕ
numbers workunits = map (λ (w : Workunit). w.number) workunits

-- The numbers of the workunits that have these classes.
abbrev pub numbers_classed : List Classed → List ℕ
numbers_classed classes = map (λ (c : Classed). c.workunit) classes

-- The classes are not those of these workunits, in their order.
abbrev pub AreOfOthers : List Workunit → List Classed → Type 0
AreOfOthers workunits classes = numbers workunits ≢ numbers_classed classes

-- The order of hosts by the bytes of their names.
abbrev pub by_classed_host : HostClass → HostClass → Ordering
by_classed_host one other = slice_cmp nat_cmp one.host other.host

-- Each host is below the one after it.
abbrev pub AreRising : List HostClass → Type 0
AreRising classes = (k : ℕ) (d : HostClass) → k + 1 < length classes → by_classed_host (slice_index_or classes k d) (slice_index_or classes (k + 1) d) ≡ Less
