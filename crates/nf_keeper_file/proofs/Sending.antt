-- A keeper in a file may be sent to another thread.
use denote.Param.Send.{IsSend, sendable}
use Rattle.std.proofs.Crossing.{crosses}
use Rattle.nf_keeper_sql.proofs.keeper.SqlKeeper.TheSendSync as sql
use Rattle.sqlite_disk.proofs.modelled.Modelled.TheSendSync as disk
use Rattle.sqlite_store.proofs.store.FileStore.TheSendSync as store
use Rattle.sqlite_std_file.specs.contracts.host.Host as Host
use Rattle.nf_keeper_file.specs.contracts.file.FileKeeper as FileKeeper

host_send : IsSend Host.the_row
host_send = search (sendable, crosses) depth 60 fits 20000

pub keeper_send : IsSend FileKeeper.the_row
keeper_send = search (sql.the_field_send, sql.the_send, store.the_send, store.the_field_send, disk.the_send, disk.the_field_send, host_send, sendable, crosses) depth 60 fits 20000
