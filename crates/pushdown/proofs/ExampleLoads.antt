-- The replies to Load, Result and a Run that is refused, by computing the definitions.
use Rattle.std.proofs.Common.{◌≡◌, ℕ, true, List, [], ◌∷◌, ◌++◌, replicate, refl}
use Rattle.zone_state.specs.declared.state.ZoneState.TheVariants as zone
use Rattle.nvme_entry.specs.Entry.{decoded}
use Rattle.program_meaning.specs.BlockRun.{block_run_of}
use Rattle.word_domain.specs.Domain.{Operations}
use Rattle.device_meaning.specs.Judging.{judge_by}
use Rattle.device_meaning.specs.EventReplies.{Happening, submission_of}
use Rattle.device_events.specs.Replies.{ReplyWithData}
use Rattle.device_meaning.specs.Draining.{state_after_turns}
use Rattle.device_meaning.specs.Happenings.{submitted}
use Rattle.device_meaning.specs.State.{State, new_state}
use Rattle.device_events.specs.declared.reply.Reply.TheVariants.{Complete}
use Rattle.pushdown.proofs.ExampleEvents.{asks, completes, completes_with, device, zone_of}
use Rattle.pushdown.proofs.Examples.{block_of, entry_of, four_zones, leave, move, passes, run_entry, sums, two_zones}

-- Load into slot 0 of a program of so many bytes, whose groups have at most `low + 256 * high` bytes
abbrev pub load_entry : ℕ → ℕ → ℕ → ℕ → List ℕ
load_entry cid low high bytes =
    0xc1 ∷ 0 ∷ cid ∷ 0 ∷ 1 ∷ 0 ∷ 0 ∷ 0 ∷ replicate 36 0 ++ low ∷ high ∷ 0 ∷ 0 ∷ bytes ∷ replicate 15 0

abbrev result_entry : ℕ → List ℕ
result_entry cid = entry_of 0xc2 cid 0 (replicate 16 0)

abbrev no_runs : State
no_runs = new_state (four_zones (replicate 4 (zone_of zone.Empty [])))

-- ---- programs

-- the first half of a wide instruction, which is refused for that where it stands alone
abbrev wide : List ℕ
wide = 0x18 ∷ 1 ∷ replicate 6 0

-- ja +1
abbrev skip : List ℕ
skip = 0x05 ∷ 0 ∷ 1 ∷ replicate 5 0

module _ {D : Type 0} (operations : Operations D) where
  abbrev loads : ℕ → List ℕ → ReplyWithData
  loads bytes program = (asks (judge_by operations) (load_entry 8 0 0 bytes) program no_runs).reply

  pub half_is_refused : loads 8 wide ≡ completes_with 0 26 8 0x84 0x0f
  half_is_refused = refl

  pub target_is_refused : loads 32 (skip ++ wide ++ replicate 8 0 ++ leave) ≡ completes_with 0 2 8 0x84 0x0f
  target_is_refused = refl

  pub end_is_refused : loads 8 move ≡ completes_with 0 3 8 0x84 0x0f
  end_is_refused = refl

  pub nothing_is_refused : loads 0 [] ≡ completes_with 0 21 8 0x84 0x0f
  nothing_is_refused = refl

  pub other_length_is_refused : loads 16 move ≡ completes 8 0x04 0
  other_length_is_refused = refl

  pub limit_is_refused : (asks (judge_by operations) (load_entry 8 1 2 16) (move ++ leave) no_runs).reply ≡ completes 8 0x04 0
  limit_is_refused = refl

  pub program_is_accepted : loads 16 (move ++ leave) ≡ completes 8 0 0
  program_is_accepted = refl

  -- where memory is refused, nothing changes
  abbrev starving : Happening
  starving = submitted (judge_by operations) true (submission_of 1 (load_entry 7 0 0 16) (move ++ leave)) no_runs (decoded (load_entry 7 0 0 16))

  pub memory_is_wanted : starving ≡ record { reply = completes 7 0x8e 0x0f; state = no_runs }
  memory_is_wanted = refl

  -- ---- results

  pub no_program : (asks (judge_by operations) (result_entry 5) [] no_runs).reply ≡ completes 5 0x82 0x0f
  no_program = refl

  abbrev summed : State
  summed = state_after_turns (0 ∷ 0 ∷ 0 ∷ []) (asks (judge_by operations) (run_entry 1 0 9 64) [] (device (two_zones (
      zone_of zone.Closed (block_of 1 ∷ block_of 2 ∷ block_of 3 ∷ replicate 7 (block_of 0)) ∷ zone_of zone.ExplicitlyOpened [] ∷ [])) sums 0)).state

  pub sum_is_given : (asks (judge_by operations) (result_entry 5) [] summed).reply
      ≡ record { reply = Complete 1 (replicate 10 0 ++ 1 ∷ 0 ∷ 5 ∷ replicate 3 0) 1024; bytes = 6 ∷ replicate 1023 0 }
  unfolding block_run_of
  sum_is_given = refl

  -- ---- Runs that are refused for their zones

  abbrev zones : State
  zones = device (four_zones (
      zone_of zone.Closed (replicate 2 (block_of 1)) ∷ zone_of zone.Offline [] ∷ zone_of zone.ExplicitlyOpened [] ∷ zone_of zone.Closed [] ∷ [])) passes 0

  pub source_is_offline : (asks (judge_by operations) (run_entry 5 8 0 16) [] zones).reply ≡ completes 5 0x76 0x03
  source_is_offline = refl

  pub source_is_not_written : (asks (judge_by operations) (run_entry 5 0 2 16) [] zones).reply ≡ completes 5 0x88 0x0f
  source_is_not_written = refl

  pub destination_is_closed : (asks (judge_by operations) (run_entry 5 0 1 24) [] zones).reply ≡ completes 5 0x8a 0x0f
  destination_is_closed = refl
