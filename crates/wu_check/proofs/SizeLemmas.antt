-- A sound world has few instances.
use Rattle.wu_schema.proofs.Words.{List, Workunit, World, [], arith, length, suc, zero, ℕ, ◌*◌, ◌+◌, ◌<◌, ◌^◌, ◌∷◌, ◌≤◌}
use Rattle.std.specs.Prelude.{All, AllPairs, get_or, sum_by}
use Rattle.std.specs.List.{fold}
use Rattle.wu_core.specs.Storable.{IsStorable}
use Rattle.wu_machine.specs.Sound.{IsSound}

-- each has at most 100
sum_from : (ws : List Workunit) → All IsStorable ws → (a : ℕ) → fold (λ (n : ℕ) (w : Workunit). n + length w.instances) a ws ≤ a + 100 * length ws
sum_from [] all a = omega arith
sum_from (w ∷ ws) all a =
    let few = (all 0 w (omega arith)).instances.few in
    let more = sum_from ws (λ k d low. all (suc k) d (omega (arith, low))) (a + length w.instances) in
    omega (arith, few, more)

-- a workunit's number is no less than its place
rises : (ws : List Workunit) → AllPairs (λ (one other : Workunit). one.number < other.number) ws → (k : ℕ) (d : Workunit) → k < length ws → k ≤ (get_or ws k d).number
rises ws up zero d low = omega arith
rises ws up (suc k) d low =
    let before = rises ws up k d (omega (arith, low)) in
    let next = up k (suc k) d (omega arith) low in
    omega (arith, before, next)

-- so there are no more workunits than numbers below the next one
few : (next : ℕ) (ws : List Workunit) → AllPairs (λ (one other : Workunit). one.number < other.number) ws → All (λ (w : Workunit). w.number < next) ws → length ws ≤ next
few next [] up below = omega arith
few next (w ∷ ws) up below =
    let last : length ws < length (w ∷ ws) = omega arith in
    let high = rises (w ∷ ws) up (length ws) w last in
    let low = below (length ws) w last in
    omega (arith, high, low)

-- and the number of instances fits
pub counts_fit : (world : World) → IsSound world → sum_by (λ (w : Workunit). length w.instances) world.workunits < 2 ^ 64
counts_fit world sound =
    let workunits = few world.next_number world.workunits sound.ascending (λ k d low. (sound.given k d low).1) in
    let next = sound.next_number.1 in
    let sum = sum_from world.workunits sound.storable 0 in
    omega (arith, workunits, next, sum)
