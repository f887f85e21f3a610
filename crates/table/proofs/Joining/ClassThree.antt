-- 02, K9, "Class 3 only after joining": `class_3_after_joining`. What ties a device's state to the history is kept by each event (Steps.antt).
-- Assumes nothing.
use Prim.Native.Nat.{ℕ}
use native.Mathlib.Omega.{arith}
use mathlib.Core.Path.{◌≡◌, refl, subst, sym, ◌∙◌}
use mathlib.Core.Bool.{true, false}
use mathlib.Core.List.{List, [], ◌∷◌, ◌++◌}
use lib.Dec.{eqb, ltb}
use Rattle.octets.proofs.Branch.{by_bool}
use Rattle.octets.specs.Frame.{longest}
use Rattle.octets.specs.Links.{no_links}
use Rattle.peer.proofs.Fits.{both, or_right}
use Rattle.peer.specs.Fit.{place_fits}
use Rattle.peer.specs.Record.{associates, fresh_of, is_free, is_joined}
use Rattle.peer.specs.Settings.{role_answers, settings_fit}
use Rattle.peer.specs.declared.record.Record.{Record}
use Rattle.peer.specs.declared.settings.Settings.{Settings}
use Rattle.table.specs.Answer.{refused_of, settled_of, stepped_of}
use Rattle.table.specs.Fit.{alone_in, crowd_of, sparse_of, well_formed}
use Rattle.table.specs.History.{Happening, Moment, empty_table, given, left_by, met, run_from}
use Rattle.table.specs.Joined.{ClassThree, Joined, is_association, is_authentication, is_deauthentication, is_teardown, of_octets, sender_in}
use Rattle.table.specs.Places.{all_of, all_tails, count_of, first_from, link_addresses_of}
use Rattle.table.specs.Receive.{received_of}
use Rattle.table.specs.Step.{step_of}
use Rattle.table.specs.declared.rules.event.Event.{Event}
use Rattle.table.specs.declared.rules.event.Event.TheVariants as event
use Rattle.table.proofs.Joining.Admits.{three_admitted}
use Rattle.table.proofs.Joining.AskSteps.{ask_steps}
use Rattle.table.proofs.Joining.ClockSteps.{clock_steps, link_steps}
use Rattle.table.proofs.Joining.FrameSteps.{frame_steps}
use Rattle.table.proofs.Joining.Records.{over}
use Rattle.table.proofs.Joining.Sinces.{held, of_since, on, since_of}
use Rattle.table.proofs.Joining.Steps.{Steps}
use Rattle.table.proofs.Order.OwnRecord.{wf_settings}
use Rattle.table.proofs.Passes.Lists.{swap}
use Rattle.table.proofs.Theorems.StepKeeps.{step_keeps}
use Rattle.table.proofs.Theorems.Well.{Well, of_well, well_of}

-- ---- each event of a run

module _ (s : Settings) where
  step_well : (t : List Record) (e : Happening) → Well s t → of_octets e ≡ true → Well s (given s (met t e)).table
  step_well t e w o =
      let k = step_keeps s t (of_well s t w) w.long e.event e.octets o e.room in
      well_of s (given s (met t e)).table k.0 k.1

  module _ (d : ℕ) (some : eqb d 0 ≡ false) where
    step_steps : (t : List Record) (e : Event) (xs : List ℕ) (n : ℕ) → Well s t → Well s (step_of s t e xs n).table → Steps s d (record { table = t; event = e; octets = xs; room = n })
    unfolding stepped_of
    step_steps t event.Frame xs n w w' = frame_steps s t w xs d some n w'
    step_steps t (event.Ask q a c) xs n w w' = ask_steps s t w q a c d some xs n w'
    step_steps t event.Links xs n w w' = link_steps s t w d some xs n w'
    step_steps t (event.Clock tu) xs n w w' = clock_steps s t w d some tu xs n w'

    -- The tie: after a run, from any table, the device is in State 2 or above exactly if it was authenticated and not since deauthenticated, in State 3
    -- or above exactly if it was associated and not torn down since.
    record Tied (t : List Record) (l : List Happening) : Type 0 where
      two : over 2 (left_by s t l) d ≡ held (is_authentication s d) (is_deauthentication s d) (over 2 t d) (run_from s t l)
      three : over 3 (left_by s t l) d ≡ held (is_association s d) (is_teardown s d) (over 3 t d) (run_from s t l)

    tied : (l : List Happening) (t : List Record) → Well s t → all_of of_octets l ≡ true → Tied t l
    unfolding all_tails
    tied [] t w o = record { two = refl; three = refl }
    tied (e ∷ l) t w o =
        let q = both (of_octets e) _ o in
        let w' = step_well t e w q.0 in
        let k = step_steps t e.event e.octets e.room w w' in
        let rest = tied l (given s (met t e)).table w' q.1 in
        record { two = rw k.two at rest.two; three = rw k.three at rest.three }

    -- at an event of a run: what came before it, and what it is
    record Within (t : List Record) (before : List Moment) (one : Moment) : Type 0 where
      two : over 2 one.table d ≡ held (is_authentication s d) (is_deauthentication s d) (over 2 t d) before
      is : Steps s d one

    within : (l : List Happening) (t : List Record) → Well s t → all_of of_octets l ≡ true → (before after : List Moment) (one : Moment) → run_from s t l ≡ before ++ (one ∷ after) → Within t before one
    unfolding all_tails
    within [] t w o [] after one e = let z : ◌≡◌ {A = ℕ} 0 1 = cc in absurd (omega arith)
    within [] t w o (b ∷ bs) after one e = let z : ◌≡◌ {A = ℕ} 0 1 = cc in absurd (omega arith)
    within (x ∷ l) t w o [] after one e =
        let p : met t x ≡ one = cc in
        let q = both (of_octets x) _ o in
        subst (Within t []) p (record { two = refl; is = step_steps t x.event x.octets x.room w (step_well t x w q.0) })
    within (x ∷ l) t w o (b ∷ bs) after one e =
        let p : met t x ≡ b = cc in
        let r : run_from s (given s (met t x)).table l ≡ bs ++ (one ∷ after) = cc in
        let q = both (of_octets x) _ o in
        let w' = step_well t x w q.0 in
        let k = step_steps t x.event x.octets x.room w w' in
        let rest = within l (given s (met t x)).table w' q.1 bs after one r in
        record {
          two = subst (λ (m : Moment). over 2 one.table d ≡ held (is_authentication s d) (is_deauthentication s d) (on (is_authentication s d) (is_deauthentication s d) (over 2 t d) m) bs) p
              (rw k.two at rest.two);
          is = rest.is;
        }

-- ---- the empty table

empty_well : (s : Settings) → settings_fit s ≡ true → Well s empty_table
unfolding well_formed all_tails place_fits is_free no_links alone_in link_addresses_of sparse_of crowd_of count_of is_joined associates
empty_well s fit = well_of s empty_table (rw fit (or_right (role_answers s.role) true refl)) refl

empty_over : (d : ℕ) → eqb d 0 ≡ false → (over 2 empty_table d ≡ false) × (over 3 empty_table d ≡ false)
unfolding first_from fresh_of
empty_over d z = let apart = swap d 0 z in (rw apart, rw apart)

left_well : (s : Settings) (l : List Happening) (t : List Record) → Well s t → all_of of_octets l ≡ true → Well s (left_by s t l)
unfolding all_tails
left_well s [] t w o = w
left_well s (e ∷ l) t w o = let q = both (of_octets e) _ o in left_well s l (given s (met t e)).table (step_well s t e w q.0) q.1

-- settings that are not refused are in range
not_refused : (s : Settings) (t : List Record) (xs : List ℕ) (n : ℕ) → (step_of s t event.Frame xs n).answer.refusal ≡ 0 → well_formed s t ≡ true
unfolding stepped_of received_of refused_of settled_of
not_refused s t xs n r = by_bool (ltb n longest)
    (λ e. let z : ◌≡◌ {A = ℕ} 1 0 = rw e at r in absurd (omega arith))
    (λ e. by_bool (well_formed s t) (λ f. f) (λ f. let z : ◌≡◌ {A = ℕ} 2 0 = rw (e, f) at r in absurd (omega arith)))

-- ---- the theorem

-- of a device that is somebody: in State 3 or above exactly if it has joined
joined_exactly :
    (s : Settings) (l : List Happening) → Well s empty_table → all_of of_octets l ≡ true → (d : ℕ) → eqb d 0 ≡ false
    → (over 3 (left_by s empty_table l) d ≡ true → Joined s d (run_from s empty_table l)) × (Joined s d (run_from s empty_table l) → over 3 (left_by s empty_table l) d ≡ true)
joined_exactly s l w o d z =
    let none = empty_over d z in
    let k = tied s d z l empty_table w o in (
      λ e.
          let a = since_of (is_association s d) (is_teardown s d) (run_from s empty_table l) (rw none.1 at (sym k.three ∙ e)) in
          let m = within s d z l empty_table w o a.before a.after a.one a.split in
          record {
            association = a;
            authentication = since_of (is_authentication s d) (is_deauthentication s d) a.before (rw none.0 at (sym m.two ∙ m.is.stands a.is));
          },
      λ j. k.three ∙ of_since (is_association s d) (is_teardown s d) (over 3 empty_table d) (run_from s empty_table l) j.association,
    )

pub class_3_after_joining : (s : Settings) → ClassThree s
class_3_after_joining s l o role xs n three r =
    let t = left_by s empty_table l in
    let w = empty_well s (wf_settings s t (not_refused s t xs n r)) in
    let v = three_admitted s t (left_well s l empty_table w o) role xs three n r in
    let k = joined_exactly s l w o (sender_in t xs) v.0 in (
      λ a. by_bool (over 3 t (sender_in t xs))
          (λ e. k.0 e)
          (λ e. let z : ◌≡◌ {A = ℕ} 2 1 = sym (v.1 ∙ rw e) ∙ a in absurd (omega arith)),
      λ j. v.1 ∙ rw (k.1 j),
    )
