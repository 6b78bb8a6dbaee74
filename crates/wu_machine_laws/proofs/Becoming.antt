-- A sound world whose workunits are rewritten one by one, or taken out, is sound.
use Rattle.std.proofs.Common.{◌≡◌, true, List, [], ◌∷◌, ◌++◌, append_assoc, append-nil, ◌≤◌}
use Rattle.std.proofs.lemmas.List.Elements.{All-head, All-tail}
use Rattle.std.specs.List.{All, flat_map}
use Rattle.wu_core.specs.Limits.{class_version}
use Rattle.wu_core.specs.World.{World}
use Rattle.wu_core.specs.declared.workunit.Archived.{Archived}
use Rattle.wu_core.specs.declared.workunit.Grant.{Grant}
use Rattle.wu_core.specs.declared.workunit.Workunit.{Workunit}
use Rattle.wu_rules.specs.Consistent.{is_done, Rewrites}
use Rattle.wu_core.specs.Storable.{IsStoredArchived, IsStorable}
use Rattle.wu_machine.specs.Sound.{IsRecorded, IsSound}
use Rattle.wu_machine_laws.proofs.Lasts.{Leads, lasts_rewritten, lasts_without, leads_same, leads_then}
use Rattle.wu_machine_laws.proofs.Middles.{around}
use Rattle.wu_machine_laws.proofs.Rewriting.{sound_rewritten, sound_without}

-- what became of a workunit: nothing is left of it and it was DONE, or it was rewritten, and can be read
abbrev pub Becomes : Workunit → List Workunit → List Grant → List Archived → Type 0
Becomes w [] gs rows = (gs ≡ []) × (rows ≡ []) × (is_done w ≡ true)
Becomes w (v ∷ []) gs rows = Rewrites w v gs rows × IsStorable v × All IsStoredArchived rows
Becomes w (v ∷ u ∷ vs) gs rows = ⊥

module _ (world : World) where
  -- the world with these workunits, grants and archived rows
  abbrev pub holding : List Workunit → List Grant → List Archived → World
  holding ws gs rows = record world { workunits = ws; grants = gs; archived = rows }

module _ (world : World) (young : class_version ≤ world.version) where
  -- one of them
  became : (us : List Workunit) (w : Workunit) (ws : List Workunit) (gs : List Grant) (rows : List Archived) (vs : List Workunit) (hs : List Grant)
      (more : List Archived) → Becomes w vs hs more
      → IsSound (holding world (us ++ w ∷ ws) gs rows) → Leads (holding world (us ++ w ∷ ws) gs rows) (holding world ((us ++ vs) ++ ws) (gs ++ hs) (rows ++ more))
  became us w ws gs rows [] hs more is sound = (
    simp (append-nil, is.0, is.1) (sound_without (holding world [] gs rows) young us w ws sound),
    lasts_without world us w ws gs hs rows more is.2 (around (IsRecorded (holding world (us ++ w ∷ ws) gs rows)) us w ws sound.recorded).1,
  )
  became us w ws gs rows (v ∷ []) hs more is sound = (
    simp append_assoc (sound_rewritten (holding world [] gs rows) young us w ws v hs more is.0 sound is.1 is.2),
    lasts_rewritten world us w ws v gs hs rows more (record {
      number = is.0.number;
      name = is.0.name;
      canonical = is.0.canonical;
      verdicts = is.0.verdicts;
      given_up = is.0.given_up;
      hosts = is.0.hosts;
      apart = is.0.apart;
    }),
  )
  became us w ws gs rows (v ∷ u ∷ vs) hs more is sound = absurd is

  module _ (change : Workunit → List Workunit) (gives : Workunit → List Grant) (files : Workunit → List Archived) where
    -- those behind, one after another
    became_all : (us ws : List Workunit) (gs : List Grant) (rows : List Archived) → All (λ w. Becomes w (change w) (gives w) (files w)) ws
        → IsSound (holding world (us ++ ws) gs rows)
        → Leads (holding world (us ++ ws) gs rows) (holding world (us ++ flat_map change ws) (gs ++ flat_map gives ws) (rows ++ flat_map files ws))
    became_all us [] gs rows all sound = simp append-nil (leads_same (holding world us gs rows) (simp append-nil at sound))
    became_all us (w ∷ ws) gs rows all sound =
        let first = holding world (us ++ w ∷ ws) gs rows in
        let middle = holding world ((us ++ change w) ++ ws) (gs ++ gives w) (rows ++ files w) in
        let last = holding world ((us ++ change w) ++ flat_map change ws) ((gs ++ gives w) ++ flat_map gives ws) ((rows ++ files w) ++ flat_map files ws) in
        let one : Leads first middle = became us w ws gs rows (change w) (gives w) (files w)
        (All-head (λ v. Becomes v (change v) (gives v) (files v)) w ws all) sound in
        let rest : Leads middle last = became_all (us ++ change w) ws (gs ++ gives w) (rows ++ files w)
        (All-tail (λ v. Becomes v (change v) (gives v) (files v)) w ws all) one.0 in
        simp append_assoc at (leads_then first middle last one rest)

    -- all of them, at once
    pub sound_changed : IsSound world → All (λ w. Becomes w (change w) (gives w) (files w)) world.workunits
        → Leads world (holding world (flat_map change world.workunits) (world.grants ++ flat_map gives world.workunits)
        (world.archived ++ flat_map files world.workunits))
    sound_changed sound all = became_all [] world.workunits world.grants world.archived all sound
