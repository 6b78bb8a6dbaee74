use Rattle.std.proofs.Common.{◌≡◌, ℕ, List, []}
use Rattle.wu_views.proofs.WalkLemmas.{Walks}
use Rattle.wu_views.specs.Listings.{Lists}
use Rattle.wu_views.proofs.walking.walk.Given as goal

abbrev pub invariant-rows : goal.invariant-rows
invariant-rows g l =
    (l.rows.conn.ghost_name ≡ l.initial.rows.conn.ghost_name)
    × (text : List ℕ) × Lists g.S.Store text g.L.Listing.is_row_of g.L.Listing.lines
    × Walks g.S.Store text g.L.Listing.is_row_of g.L.Listing.lines g.K.Takes.takes g.K.Takes.refuses l.fn.conn l.fn.taker l.rows.conn.now l.taker []
