use Rattle.std.proofs.Common.{inl, refl}
use Rattle.wire_server.proofs.connection.execute_next.Goals as goal

pub returns-in-Ok-Request-clause-played : goal.returns-in-Ok-Request-clause-played
returns-in-Ok-Request-clause-played g c =
    let read = c.in-Ok-Request.ensures.request c.in-Ok-Request.head c.in-Ok-Request.field-0-is in
    let made = c.new-request.ensures in
    let step = rw (made.0, made.1, c.payload_len.ensures, c.as_slice.ensures.value) at c.execute_request.ensures in
    (record { head = c.in-Ok-Request.head; payload = _ }, step, read.2)

pub returns-in-Ok-OutOfMemory-clause-played : goal.returns-in-Ok-OutOfMemory-clause-played
returns-in-Ok-OutOfMemory-clause-played g c =
    let read = c.in-Ok-OutOfMemory.ensures.dropped c.in-Ok-OutOfMemory.field-0-is in
    (record { head = read.0; payload = read.1 }, inl (inl read.3, refl, refl), read.4)
