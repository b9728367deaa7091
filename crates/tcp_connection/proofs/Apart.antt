-- What comes for one R2T changes nothing of what came for another.
use Rattle.std.proofs.Common.{◌≡◌, ◌≢◌, ℕ, List, drop, Option, None, refl, get_or-set_other}
use Rattle.tcp_pdus.specs.declared.received.HostPdu.TheVariants.{IcReq, H2cTermReq, CapsuleCmd, H2cData}
use Rattle.tcp_connection.specs.declared.expected.Progress.{Progress}
use Rattle.tcp_connection.specs.declared.expected.Progress.TheVariants.{Partial, Whole, Failed}
use Rattle.tcp_connection.specs.ReceiverLaws.{TransfersStayApart}
use Rattle.tcp_connection.specs.Receiving.{ReceiverState, next_by, tag_in, taken_by}
use Rattle.tcp_connection.specs.Transfers.{joined_in, transfer_at}

same_expected : (s : ReceiverState) (piece : List ℕ) (p : Progress) → (taken_by p s piece).0.expected ≡ s.expected
same_expected s piece Partial = refl
same_expected s piece (Whole pdu) = refl
same_expected s piece (Failed error) = refl

others : (s : ReceiverState) (tag : ℕ) → tag ≢ tag_in s.pending → (p : Progress)
    → transfer_at tag (next_by p s).expected.transfers ≡ transfer_at tag s.expected.transfers
others s tag differs Partial = refl
others s tag differs (Failed error) = refl
others s tag differs (Whole IcReq) = refl
others s tag differs (Whole H2cTermReq) = refl
others s tag differs (Whole CapsuleCmd) = refl
others s tag differs (Whole H2cData) =
    let transfers = s.expected.transfers in
    get_or-set_other transfers (tag_in s.pending) tag (joined_in (drop 24 s.pending) (transfer_at (tag_in s.pending) transfers)) None differs

pub transfers_stay_apart : TransfersStayApart
transfers_stay_apart = record {
  takes = λ s piece. same_expected s piece s.progress;
  others = λ s tag differs. others s tag differs s.progress;
}
