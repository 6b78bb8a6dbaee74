-- Exports, one after another.
use Rattle.std.proofs.Common.{◌≡◌, ◌≤◌, ◌+◌, ℕ, List, [], ◌∷◌, Option, Result, Ok, Err, drop, inl, inr, length, refl, subst, sym}
use Rattle.std.proofs.lemmas.List.{drop_all}
use Rattle.wu_arguments.specs.declared.order.Export.{Export}
use Rattle.wu_cli.specs.Exports.{Exports, ExportsEach, SaysOfExport}
use Rattle.wu_cli.specs.declared.trouble.Trouble.{Trouble}

module _ {W : Type 0} (contents : W → Option (List ℕ)) (exports : SaysOfExport) (path : List ℕ) where
  -- what is left to be made, once what comes before it is
  abbrev pub Leads : List Export → List Export → W → W → Type 0
  Leads all rest old mid = (new : W) (done : Result (Unit {0}) Trouble) → ExportsEach contents exports path rest mid new done → ExportsEach contents exports path all old new done

  each_none : (out : W) → ExportsEach contents exports path [] out out (Ok tt)
  unfolding ExportsEach
  each_none out = (refl, refl)

  each_more : (export : Export) (more : List Export) (old mid : W) → Exports contents exports path export old mid (Ok tt) → Leads (export ∷ more) more old mid
  unfolding ExportsEach
  each_more export more old mid made new done rest = inr (mid, made, rest)

  each_cut : (export : Export) (more : List Export) (old new : W) (told : Trouble) → Exports contents exports path export old new (Err told) → ExportsEach contents exports path (export ∷ more) old new (Err told)
  unfolding ExportsEach
  each_cut export more old new told made = inl (told, made, refl)

  -- the next export was made
  pub leads_on : (all : List Export) (i : ℕ) (export : Export) (old mid next : W) (made : Result (Unit {0}) Trouble) → drop i all ≡ export ∷ drop (i + 1) all → Exports contents exports path export mid next made
      → made ≡ Ok tt → Leads all (drop i all) old mid → Leads all (drop (i + 1) all) old next
  leads_on all i export old mid next made order makes is leads new done rest =
      leads new done (subst (λ l. ExportsEach contents exports path l mid new done) (sym order)
      (each_more export (drop (i + 1) all) mid next (subst (λ r. Exports contents exports path export mid next r) is makes) new done rest))

  -- or it was not
  pub leads_off : (all : List Export) (i : ℕ) (export : Export) (old mid next : W) (made : Result (Unit {0}) Trouble) (told : Trouble) → drop i all ≡ export ∷ drop (i + 1) all → Exports contents exports path export mid next made
      → made ≡ Err told → Leads all (drop i all) old mid → ExportsEach contents exports path all old next (Err told)
  leads_off all i export old mid next made told order makes is leads =
      leads next (Err told) (subst (λ l. ExportsEach contents exports path l mid next (Err told)) (sym order)
      (each_cut export (drop (i + 1) all) mid next told (subst (λ r. Exports contents exports path export mid next r) is makes)))

  -- all were made
  pub leads_whole : (all : List Export) (i : ℕ) (old mid : W) → length all ≤ i → Leads all (drop i all) old mid → ExportsEach contents exports path all old mid (Ok tt)
  leads_whole all i old mid through leads = leads mid (Ok tt) (subst (λ l. ExportsEach contents exports path l mid mid (Ok tt)) (sym (drop_all i all through)) (each_none mid))
