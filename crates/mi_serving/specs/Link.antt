-- What the stream of a connection is known by, the descriptor of its socket, and through which listener it has come.
use Rattle.std.specs.Prelude.{ℤ, Bool, true, false}
use Rattle.mio.specs.Net.{stream_fd, unix_stream_fd}
use Rattle.mi_serving.specs.declared.link.Link.{Link}
use Rattle.mi_serving.specs.declared.link.Link.TheVariants.{Tcp, Unix}

abbrev pub link_fd : Link → ℤ
link_fd (Tcp stream) = stream_fd stream
link_fd (Unix stream) = unix_stream_fd stream

-- whether it has come through the path's socket
abbrev pub is_unix : Link → Bool
is_unix (Tcp stream) = false
is_unix (Unix stream) = true
