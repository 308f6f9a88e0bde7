-- The view of contracts on the output of a connection.
use Rattle.wire_server.specs.declared.reply_stream.ReplyStream.{ReplyStream}

-- the output underneath
abbrev pub output_of : {G O : Type 0} → ReplyStream G O → O
output_of stream = stream.output
