-- A share is asked of what is there, where the rules of who asks and of where paths lead pass.
use Rattle.std.proofs.Common.{ℕ, ◌≡◌, ◌||◌, Bool, true, false, is_some, find, if◌then◌else◌, List, [], ◌∷◌, Option, None, Some, IsSome, option_map, option_and_then, refl, subst, sym}
use Rattle.std.specs.List.{list_any}
use Rattle.nf_base.specs.declared.rows.NodeRow.{NodeRow}
use Rattle.nf_base.specs.declared.rows.ShareRow.{ShareRow}
use Rattle.nf_defs.specs.declared.Found.{Found}
use Rattle.nf_defs.specs.declared.Found.TheVariants.{At, Free, Missing}
use Rattle.nf_words.proofs.Passing.{PlacePasses, place_passes}
use Rattle.nf_words.proofs.Starts.{has_asker, IsAsking}
use Rattle.nf_words.proofs.Ways.{way_there}
use Rattle.nf_words.specs.Prelude.{access_of, AreSound, asked_of, Call, found, link_token, node_found, place_rule, token_rule, unreached, way_of}
use Rattle.nf_words.specs.Sharing.{offer_of, offered, receiver_named}
use Rattle.nf_words.specs.declared.request.Receiver.{Receiver}
use Rattle.nf_words.specs.declared.request.Sharee.{Sharee}
use Rattle.nf_words.specs.declared.request.ShareAsk.TheVariants as ask
use Rattle.nf_words.specs.declared.request.Spot.{Spot}
use Rattle.nf_words.specs.declared.request.Wanted.{Wanted}
use Rattle.nf_words.specs.declared.request.Wanted.TheVariants.{Get, Put, Mkcol, Delete, Move, Copy, Share, People, Trash, Version, Upload}
use Rattle.nf_decide.specs.Deciding.{IsThere, offer_in}

spot_there : (call : Call) (spot : Spot) (to : Sharee) (perms until : Option ℕ) → AreSound call.state.tables → IsAsking call
    → unreached (access_of call.state) call (way_of call spot) ≡ None
    → IsThere call.state.tables (offered call spot to perms until)
spot_there call spot to perms until sound is reached = here (found call spot) (receiver_named call.state.tables to) refl
  where
    here : (place : Found) (to : Option Receiver) → found call spot ≡ place
        → IsThere call.state.tables (option_and_then (λ node. option_map (offer_of call.state.tables.nodes (link_token call.words) (way_of call spot).mount perms until node) to) (node_found place))
    here (At node) (Some to) leads =
        let there = way_there call spot sound is node reached leads in
        subst (λ (o : Option NodeRow). IsSome o) (sym there.1) refl
    here (At node) None leads = tt
    here (Free folder) to leads = tt
    here (Missing depth) to leads = tt

wanted_there : (call : Call) (wanted : Wanted) → AreSound call.state.tables → IsAsking call
    → PlacePasses (access_of call.state) call (asked_of wanted) → IsThere call.state.tables (offer_in call wanted)
wanted_there call (Share (ask.New spot to perms until)) sound is passes = spot_there call spot to perms until sound is (passes.source refl)
wanted_there call (Share (ask.List spot with_me)) sound is passes = tt
wanted_there call (Share (ask.Show share)) sound is passes = tt
wanted_there call (Share (ask.Set share perms until)) sound is passes = tt
wanted_there call (Share (ask.End share)) sound is passes = tt
wanted_there call (People ask) sound is passes = tt
wanted_there call (Trash ask) sound is passes = tt
wanted_there call (Version ask) sound is passes = tt
wanted_there call (Upload ask) sound is passes = tt
wanted_there call (Get spot) sound is passes = tt
wanted_there call (Put spot length) sound is passes = tt
wanted_there call (Mkcol spot) sound is passes = tt
wanted_there call (Delete spot) sound is passes = tt
wanted_there call (Move source target overwrite) sound is passes = tt
wanted_there call (Copy source target overwrite) sound is passes = tt

pub offer_there : (call : Call) → AreSound call.state.tables → token_rule (access_of call.state) call ≡ None
    → place_rule (access_of call.state) call ≡ None → IsThere call.state.tables (offer_in call call.request.wanted)
offer_there call sound token place =
    let passes = place_passes (access_of call.state) call place in
    wanted_there call call.request.wanted sound (has_asker call token passes.linked) passes

-- one is found where any passes the test
pub any_found : (test : ShareRow → Bool) (rows : List ShareRow) → is_some (option_map (λ row. row.id) (find test rows)) ≡ list_any test rows
any_found test [] = refl
any_found test (row ∷ rows) = here (test row) (any_found test rows)
  where
    here : (b : Bool) → is_some (option_map (λ row. row.id) (find test rows)) ≡ list_any test rows
        → is_some (option_map (λ row. row.id) (if b then Some row else find test rows)) ≡ (b || list_any test rows)
    here true rest = refl
    here false rest = rest
