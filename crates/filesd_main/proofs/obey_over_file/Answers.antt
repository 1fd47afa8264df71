use denote.Param.Send.{sendable}
use Rattle.std.proofs.Crossing.{crosses}
use Rattle.filesd_main.proofs.watching.StoreWatch.TheSendSync as watch
use Rattle.nf_keeper_file.proofs.Sending.{keeper_send}
use Rattle.nf_watch.proofs.watched.WatchedKeeper.TheSendSync as watched
use Rattle.filesd_main.proofs.obey_over_file.Goals as goal

pub run_on-finished-requires-send-K : goal.run_on-finished-requires-send-K
run_on-finished-requires-send-K g c κs = search (keeper_send, watched.the_send, watched.the_field_send, watch.the_send, sendable, crosses) depth 60 fits 20000
