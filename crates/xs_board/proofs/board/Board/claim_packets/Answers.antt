use denote.Param.Send.{param_send}
use Rattle.xs_capture.proofs.units.Packet.TheSendSync.{the_send}
use Rattle.xs_board.proofs.board.Board.claim_packets.Lts.{arg-1-0}
use Rattle.xs_board.proofs.board.Board.claim_packets.Goals as goal

pub claim-requires-send-T : goal.claim-requires-send-T
claim-requires-send-T c κs = param_send 0 (arg-1-0 κs) record { owned = the_send.owned; leaving = the_send.leaving }
