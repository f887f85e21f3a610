-- Demand 3 for a host's octets at work: the events of Order/OrderExamples.antt, at an access point and in an ad hoc network.
-- Assumes nothing.
use Prim.Native.Nat.{ℕ}
use mathlib.Core.Path.{◌≡◌, refl}
use mathlib.Core.Bool.{true}
use mathlib.Core.List.{List, ◌∷◌, ◌++◌}
use native.Mathlib.Omega.{arith}
use lib.ListN.{get_or, replicate}
use Rattle.octets.specs.Field.{all_octets, octets}
use Rattle.octets.specs.Links.{link_octets}
use Rattle.octets.specs.Row.{head_octets, query_octets, row_octets}
use Rattle.peer.specs.Record.{free_of, fresh_of}
use Rattle.peer.specs.Settings.{role_answers}
use Rattle.table.specs.Boundary.{edition_in, maximum_in, retry_in, settings_in, settings_length}
use Rattle.table.specs.Calls.{called_for}
use Rattle.table.specs.Case.{table_of}
use Rattle.table.specs.Fit.{well_formed}
use Rattle.table.specs.Marked.{as_ap, us}
use Rattle.table.specs.Order.{Handed, Moved, Named, SameOutcome, address_of, peer_named}
use Rattle.table.specs.Rows.{octets_of, row_of}
use Rattle.table.proofs.Octets.CallsInRow.{access_point_lem, example_settings}
use Rattle.table.proofs.Octets.OrderOctets.{demand_3_octets}
use Rattle.table.proofs.Octets.RecordTrip.{fitting_of_well, octets_table, well_trip}
use Rattle.table.proofs.Order.Allowed.{moved, named_all}
use Rattle.table.proofs.Order.OrderExamples.{ad_hoc_at_work, ad_hoc_peer, at_work, back, both, homeward, l₁, l₂, m₁, m₂, onward, stray, there}

-- room for each answer
abbrev room : Handed → List ℕ
room e = replicate 24 0

both_octets : all_octets (octets_of both) ≡ true
unfolding octets_of row_of row_octets head_octets query_octets link_octets octets fresh_of table_of
both_octets = refl

-- the two peers' records as octets, under settings in octets of a role that answers
module _ (ss : List ℕ) (role : role_answers (settings_in ss).role ≡ true) (w : well_formed (settings_in ss) both ≡ true) where
  same_octets :
      (before after : List Handed) (to from : ℕ → ℕ) → Named free_of address_of (peer_named (settings_in ss) both) both before
      → Moved (peer_named (settings_in ss) both) before after to from → SameOutcome (called_for ss room) (octets_of both) before after to
  unfolding table_of
  same_octets before after to from named kept =
      let trip = well_trip (settings_in ss) both w refl in
      demand_3_octets ss (octets_of both) room before after to from role both_octets (octets_table both refl (fitting_of_well (settings_in ss) both w))
      (rw trip w) (λ e. omega arith) (rw trip named) (rw trip kept)

-- at an access point
pub same_six_octets : SameOutcome (called_for access_point_lem room) (octets_of both) l₁ l₂ (λ k. get_or there k 0)
unfolding role_answers
same_six_octets =
    same_octets access_point_lem (rw example_settings) (rw example_settings at_work.well) l₁ l₂ (λ k. get_or there k 0) (λ k. get_or back k 0)
    (rw example_settings (named_all free_of address_of (peer_named as_ap both) both l₁ at_work.known))
    (rw example_settings (moved stray (peer_named as_ap both) l₁ there back at_work.kept))

-- 02, K10: the peer of an ad hoc network in 24 octets: role 3, the same up to the timeouts, edition 1, no protection, 201 and 1,000 TU, the network
pub ad_hoc_peer_lem : List ℕ
ad_hoc_peer_lem = 3 ∷ octets 6 us ++ 0 ∷ octets 2 100 ++ octets 2 100 ++ 1 ∷ 0 ∷ octets 2 201 ++ octets 2 1000 ++ octets 6 0x0c0000000002

ad_hoc_settings : settings_in ad_hoc_peer_lem ≡ ad_hoc_peer
unfolding settings_in settings_length edition_in retry_in maximum_in octets ad_hoc_peer_lem
ad_hoc_settings = refl

pub same_six_octets_ad_hoc : SameOutcome (called_for ad_hoc_peer_lem room) (octets_of both) m₁ m₂ (λ k. get_or onward k 0)
unfolding role_answers
same_six_octets_ad_hoc =
    same_octets ad_hoc_peer_lem (rw ad_hoc_settings) (rw ad_hoc_settings ad_hoc_at_work.well) m₁ m₂ (λ k. get_or onward k 0) (λ k. get_or homeward k 0)
    (rw ad_hoc_settings (named_all free_of address_of (peer_named ad_hoc_peer both) both m₁ ad_hoc_at_work.known))
    (rw ad_hoc_settings (moved stray (peer_named ad_hoc_peer both) m₁ onward homeward ad_hoc_at_work.kept))
