-- What the head of a request asks for.
use Rattle.std.specs.Prelude.{◌≡◌, ◌⊎◌, ◌≤◌, ◌<◌, ℕ, Bool, true, false, not, ◌&&◌, ◌||◌, ◌==◌, List, length, map, All, codes, bytes_eq, Option, Some, None, if◌then◌else◌}
use Rattle.std.specs.List.{filter, list_any, slice_split}
use Rattle.httparse.specs.Grammar.{RequestHead, ReadsRequest, HasNoRequest, NeverHasRequest, MayBecomeRequest, print_request}
use Rattle.httparse.specs.Spans.{IsHeaderWithin, name_and_value, RequestExceeds}
use Rattle.http.specs.Uri.{Spells, SpellsNone, uri_path}
use Rattle.websocket.specs.Headers.{Fields, eq_ignore_case, fields_of, header_value}
use Rattle.websocket.specs.Handshake.{IsValidKey, accept_key_of}
use Rattle.ws_peers.specs.Paths.{route_of}
use Rattle.ws_peers.specs.declared.routes.Route.{Route}
use Rattle.ws_handshake.specs.declared.head.TheConstants.{MAX_FIELDS, MAX_HEAD}
use Rattle.ws_handshake.specs.declared.answer.Answer.{Answer}
use Rattle.ws_handshake.specs.declared.answer.Answer.TheVariants as answer
use Rattle.ws_handshake.specs.Subprotocols.{subprotocol_name}
use Rattle.ws_handshake.specs.declared.subprotocol.Offered.{Offered}
use Rattle.ws_handshake.specs.declared.subprotocol.Subprotocol.{Subprotocol}
use Rattle.ws_handshake.specs.declared.subprotocol.Subprotocol.TheVariants.{Named, InCapitals, WithJ}
use Rattle.ws_handshake.specs.declared.head.Asked.{Asked}
use Rattle.ws_handshake.specs.declared.head.Request.{Request}
use Rattle.ws_handshake.specs.declared.head.Asked.TheVariants.{More, Plain, Upgraded}

-- the fields of a request lie within its bytes
abbrev pub HasFieldsWithin : Request → Type 0
HasFieldsWithin request = All (IsHeaderWithin (length request.bytes.now)) request.fields.now

-- the fields of a request
abbrev pub fields_in : Request → Fields
fields_in request = fields_of request.bytes.now request.fields.now

-- a comma, a space or a tab
abbrev pub is_between : ℕ → Bool
is_between b = b == 44 || b == 32 || b == 9

-- a list has the item, in any case; items are cut at commas and white space
abbrev pub has_item : List ℕ → List ℕ → Bool
has_item item value = list_any (λ i. eq_ignore_case i item) (slice_split is_between value)

-- a list has exactly the item
abbrev pub has_exactly : List ℕ → List ℕ → Bool
has_exactly item value = list_any (λ i. bytes_eq i item) (slice_split is_between value)

-- how many fields have that name
abbrev pub count_of : List ℕ → Fields → ℕ
count_of name fields = length (filter (λ f. eq_ignore_case f.0 name) fields)

-- a field of that name lists the item; several fields are one list (RFC 9110, section 5.3)
abbrev pub lists : List ℕ → List ℕ → Fields → Bool
lists name item fields = list_any (λ f. eq_ignore_case f.0 name && has_item item f.1) fields

-- a field of that name lists exactly the item
abbrev pub lists_exactly : List ℕ → List ℕ → Fields → Bool
lists_exactly name item fields = list_any (λ f. eq_ignore_case f.0 name && has_exactly item f.1) fields

-- a request offers a subprotocol (RFC 6455, section 11.3.4)
abbrev pub offers : Subprotocol → Fields → Bool
offers subprotocol fields = lists_exactly (codes "Sec-WebSocket-Protocol") (subprotocol_name subprotocol) fields

-- which names of OCPP 1.6 it offers
abbrev pub offered : Fields → Offered
offered fields = record { named = offers Named fields; in_capitals = offers InCapitals fields; with_j = offers WithJ fields }

-- an origin is one of these
abbrev pub is_among : List (List ℕ) → List ℕ → Bool
is_among origins value = list_any (λ o. bytes_eq o value) origins

-- a page of an origin asks that isn't one of these (RFC 6455, sections 4.2.2 and 10.2)
abbrev pub has_foreign_origin : List (List ℕ) → Fields → Bool
has_foreign_origin origins fields = list_any (λ f. eq_ignore_case f.0 (codes "Origin") && not (is_among origins f.1)) fields

-- the value of the field of that name, if there is exactly one
abbrev pub only_value : List ℕ → Fields → Option (List ℕ)
only_value name fields = if count_of name fields == 1 then header_value fields name else None

-- a request of HTTP/1.1 names its host once (RFC 9112, section 3.2)
abbrev pub lacks_host : ℕ → Fields → Bool
lacks_host minor fields = minor == 1 && not (count_of (codes "Host") fields == 1)

-- a request asks for an upgrade to WebSocket (RFC 9110, section 7.8; RFC 6455, section 4.2.1)
abbrev pub asks_upgrade : List ℕ → ℕ → Fields → Bool
asks_upgrade method minor fields =
    bytes_eq method (codes "GET") && minor == 1 && lists (codes "Connection") (codes "upgrade") fields && lists (codes "Upgrade") (codes "websocket") fields

-- it is a GET or a HEAD
abbrev pub is_read : List ℕ → Bool
is_read method = bytes_eq method (codes "GET") || bytes_eq method (codes "HEAD")

-- the one statement or the other
abbrev pub Either : Bool → Type 0 → Type 0 → Type 0
Either true A B = A
Either false A B = B

-- the answer to a request of what the server measures of itself: a GET has a body
abbrev pub metrics_answer : List ℕ → Answer
metrics_answer method = if bytes_eq method (codes "GET") then answer.Metrics else answer.MetricsHead

-- the answer to a GET or a HEAD that asks for no upgrade, by its path; None is a path that leads nowhere
abbrev pub read_answer : List ℕ → List ℕ → Option Route → Option Answer
read_answer method path (Some route) = Some answer.UpgradeRequired
read_answer method path None =
    if bytes_eq path (codes "/health") then Some answer.Healthy
    else if bytes_eq path (codes "/metrics") then Some (metrics_answer method)
    else None

-- other methods are answered alike on each path that leads somewhere
abbrev pub if_read : Bool → Option Answer → Answer
if_read is_read None = answer.NotFound
if_read is_read (Some a) = if is_read then a else answer.NotAllowed

-- the answer to a request that asks for no upgrade
abbrev pub plain_answer : List ℕ → List ℕ → Option Route → Answer
plain_answer method path route = if_read (is_read method) (read_answer method path route)

-- the version is 13 (RFC 6455, section 4.2.2)
abbrev pub is_version : Option (List ℕ) → Bool
is_version None = false
is_version (Some value) = bytes_eq value (codes "13")

-- an upgrade to that route is answered by its key, if that is the base64 of 16 bytes
abbrev pub KeyJudged : Route → Fields → ℕ → Option (List ℕ) → Asked → Type 0
KeyJudged route fields len None asked = asked ≡ Plain answer.BadRequest
KeyJudged route fields len (Some key) asked =
    (IsValidKey key × (asked ≡ Upgraded record { route = route; offered = offered fields; accept = accept_key_of key; len = len }))
    ⊎ (¬ (IsValidKey key) × (asked ≡ Plain answer.BadRequest))

-- an upgrade to a route, by its version
abbrev pub VersionJudged : Route → Fields → ℕ → Asked → Type 0
VersionJudged route fields len asked =
    Either (is_version (only_value (codes "Sec-WebSocket-Version") fields))
    (KeyJudged route fields len (only_value (codes "Sec-WebSocket-Key") fields) asked)
    (asked ≡ Plain answer.UpgradeRequired)

-- an upgrade, by where its path leads; a page of an origin that isn't one of these gets none
abbrev pub UpgradeJudged : List (List ℕ) → Option Route → Fields → ℕ → Asked → Type 0
UpgradeJudged origins None fields len asked = asked ≡ Plain answer.NotFound
UpgradeJudged origins (Some route) fields len asked =
    Either (has_foreign_origin origins fields) (asked ≡ Plain answer.Forbidden)
    (VersionJudged route fields len asked)

-- a request of a path, with a head of so many bytes
abbrev pub PathJudged : List (List ℕ) → List ℕ → List ℕ → ℕ → Fields → ℕ → Asked → Type 0
PathJudged origins path method minor fields len asked =
    Either (asks_upgrade method minor fields) (UpgradeJudged origins (route_of path) fields len asked) (asked ≡ Plain (plain_answer method path (route_of path)))

-- a request: one without a host, and one whose target spells no URI, is a bad one
abbrev pub Judged : List (List ℕ) → List ℕ → List ℕ → ℕ → Fields → ℕ → Asked → Type 0
Judged origins target method minor fields len asked =
    Either (lacks_host minor fields) (asked ≡ Plain answer.BadRequest)
    ((SpellsNone target × (asked ≡ Plain answer.BadRequest)) ⊎ ((uri : _) × Spells target uri × PathJudged origins (uri_path uri) method minor fields len asked))

-- what a head asks for
abbrev pub HeadJudged : List (List ℕ) → RequestHead → Asked → Type 0
HeadJudged origins h asked = Judged origins h.target h.method h.minor (map name_and_value h.fields) (length (print_request h)) asked

-- the bytes begin with a head that asks for that
abbrev pub Asks : List (List ℕ) → List ℕ → Asked → Type 0
Asks origins bytes asked = (h : RequestHead) × (rest : List ℕ) × ReadsRequest bytes h rest × HeadJudged origins h asked

-- what bytes ask for that begin with no head of at most 64 fields. More is to come while they can become a request and
-- are fewer than a head may have. They are answered where no bytes can follow that make a request of them, where they
-- have more than 64 fields, or where they are as many as a head may have and no request yet
abbrev pub NoHeadJudged : List ℕ → Asked → Type 0
NoHeadJudged bytes More = (length bytes < MAX_HEAD) × HasNoRequest bytes × MayBecomeRequest bytes
NoHeadJudged bytes (Plain a) =
    ((a ≡ answer.BadRequest) × NeverHasRequest bytes)
    ⊎ ((a ≡ answer.TooLarge) × (RequestExceeds MAX_FIELDS bytes ⊎ ((MAX_HEAD ≤ length bytes) × HasNoRequest bytes)))
NoHeadJudged bytes (Upgraded upgrade) = ⊥

-- what the first bytes of a connection ask for, where pages of these origins are served
abbrev pub BytesJudged : List (List ℕ) → List ℕ → Asked → Type 0
BytesJudged origins bytes asked = Asks origins bytes asked ⊎ NoHeadJudged bytes asked
