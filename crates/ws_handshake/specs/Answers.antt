-- Answers to requests that make no connection.
use Rattle.std.specs.Prelude.{◌≡◌, ℕ, List, length, codes, Option}
use Rattle.std.specs.Io.KnownBytes.{Consumes, Appends}
use Rattle.ws_handshake.specs.declared.answer.Answer.{Answer}
use Rattle.ws_handshake.specs.declared.answer.Answer.TheVariants as answer

abbrev pub answer_text : Answer → List ℕ
answer_text answer.Healthy = codes "HTTP/1.1 200 OK\r\nContent-Length: 0\r\nConnection: close\r\n\r\n"
answer_text answer.Metrics = codes "HTTP/1.1 200 OK\r\nContent-Type: text/plain; version=0.0.4\r\nConnection: close\r\n\r\n"
answer_text answer.MetricsHead = codes "HTTP/1.1 200 OK\r\nContent-Type: text/plain; version=0.0.4\r\nConnection: close\r\n\r\n"
answer_text answer.BadRequest = codes "HTTP/1.1 400 Bad Request\r\nContent-Length: 0\r\nConnection: close\r\n\r\n"
answer_text answer.Forbidden = codes "HTTP/1.1 403 Forbidden\r\nContent-Length: 0\r\nConnection: close\r\n\r\n"
answer_text answer.NotFound = codes "HTTP/1.1 404 Not Found\r\nContent-Length: 0\r\nConnection: close\r\n\r\n"
answer_text answer.NotAllowed = codes "HTTP/1.1 405 Method Not Allowed\r\nAllow: GET, HEAD\r\nContent-Length: 0\r\nConnection: close\r\n\r\n"
answer_text answer.UpgradeRequired = codes "HTTP/1.1 426 Upgrade Required\r\nUpgrade: websocket\r\nSec-WebSocket-Version: 13\r\nContent-Length: 0\r\nConnection: close, Upgrade\r\n\r\n"
answer_text answer.TooLarge = codes "HTTP/1.1 431 Request Header Fields Too Large\r\nContent-Length: 0\r\nConnection: close\r\n\r\n"
answer_text answer.Unavailable = codes "HTTP/1.1 503 Service Unavailable\r\nContent-Length: 0\r\nConnection: close\r\n\r\n"

module _ {T : Type 0} (remaining : T → Option (List ℕ)) where
  -- so many bytes were read from a stream
  pub record Taken (count : ℕ) (old new : T) : Type 0 where
    pub bytes : List ℕ
    pub len : length bytes ≡ count
    pub from : Consumes (remaining old) (remaining new) bytes

module _ {T : Type 0} (remaining contents : T → Option (List ℕ)) where
  -- so many bytes were read from a stream, and then a text was written to it
  pub record Exchanged (count : ℕ) (text : List ℕ) (old new : T) : Type 0 where
    pub mid : T
    pub taken : Taken remaining count old mid
    pub answered : Appends (contents mid) (contents new) text

  -- the request was read, and answered so
  abbrev pub Refused : ℕ → Answer → T → T → Type 0
  Refused seen answer old new = Exchanged seen (answer_text answer) old new
