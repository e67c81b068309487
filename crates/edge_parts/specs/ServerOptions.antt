-- What the options of `serve` ask of a server.
use Rattle.std.specs.Prelude.{◌≡◌, ◌*◌, ◌==◌, min, ℕ, Option, Some, None, option_map, unwrap_or, MatchOption, if◌then◌else◌}
use Rattle.std.specs.Duration.{as_nanos}
use Rattle.std.specs.declared.time.Duration.{Duration}
use Rattle.edge_connections.specs.declared.exchange.Limits.{Limits}
use Rattle.edge_setup.specs.Said.{number_of, value_of}
use Rattle.edge_setup.specs.declared.number.Number.TheVariants as number
use Rattle.edge_setup.specs.declared.numbers.Numbers.{Numbers}
use Rattle.edge_setup.specs.declared.setup.Setup.{Setup}
use Rattle.fetch_workers.specs.declared.assembler.Assembling.{Assembling}
use Rattle.origin_http.specs.declared.body_limits.BodyLimits.{BodyLimits}
use Rattle.origins.specs.declared.gate.Bounds.{Bounds}
use Rattle.edge_parts.specs.declared.server_options.Fetches.{Fetches}
use Rattle.edge_parts.specs.declared.server_options.ServerOptions.{ServerOptions}

-- how many nanoseconds a limit has, if there is one
abbrev pub nanos_of : Option Duration → Option ℕ
nanos_of limit = option_map as_nanos limit

-- the same of a limit of this many milliseconds; 0 means no limit
abbrev pub limit_of : ℕ → Option ℕ
limit_of millis = if millis == 0 then None else Some (millis * 1_000_000)

-- the milliseconds that a fetch may take: no more than its page may; 0 means no limit
abbrev pub fetch_millis : ℕ → ℕ → ℕ
fetch_millis timeout page = if page == 0 then timeout else (if timeout == 0 then page else min timeout page)

-- the same of this many seconds for which a connection is kept; 0 means that none is
abbrev pub idle_of : ℕ → Option ℕ
idle_of seconds = if seconds == 0 then None else Some (seconds * 1_000_000_000)

-- so many fetches at once; 0 means that there is no bound
abbrev pub bound_of : ℕ → Option ℕ
bound_of count = if count == 0 then None else Some count

-- how many may wait for a fetch that another page has begun: as many as may be fetched at once, where each page has one
-- fetch in flight and holds its thread
abbrev pub crowd_of : ℕ → ℕ → Option ℕ
crowd_of fetches most = if fetches == 1 then bound_of most else None

-- so many bytes of a page; 0 means that there may be any number
abbrev pub bytes_of : ℕ → ℕ
bytes_of count = if count == 0 then 18_446_744_073_709_551_615 else count

-- how many slots posts may open ahead where no number says so: all that may be, where more than one fetch may be in flight
abbrev pub ahead_for : ℕ → Option ℕ → ℕ
ahead_for fetches None = if fetches == 1 then 16 else 256
ahead_for fetches (Some ahead) = ahead

-- so many fetches that wait; where no number says how many, as many as connections may be open
abbrev pub queue_for : ℕ → Option ℕ → ℕ
queue_for connections None = connections
queue_for connections (Some most) = most

-- neither the fetches at once nor a rest are asked for
pub record IsUnbounded (numbers : Numbers) : Type 0 where
  pub any_fetches : number_of numbers number.OriginFetches ≡ 0
  pub no_rest : number_of numbers number.OriginRest ≡ 0

-- so many fetches at once, so many that wait, and a rest of so many seconds, in milliseconds
pub record AreBounds (numbers : Numbers) (bounds : Bounds) : Type 0 where
  pub fetches_are : bounds.most_in_flight ≡ bound_of (number_of numbers number.OriginFetches)
  pub queue_is : bounds.most_waiting ≡ queue_for (number_of numbers number.Connections) (value_of numbers number.OriginQueue)
  pub rest_is : bounds.rest ≡ number_of numbers number.OriginRest * 1_000

-- the bodies of answers may be so long
pub record AreBodyLimits (numbers : Numbers) (limits : BodyLimits) : Type 0 where
  pub body_is : limits.body ≡ number_of numbers number.BodyBytes
  pub template_is : limits.template ≡ number_of numbers number.TemplateBytes

-- origins are asked as their options say
pub record AreFetchesOf (numbers : Numbers) (fetches : Fetches) : Type 0 where
  pub limit_is : nanos_of fetches.limit ≡ limit_of (fetch_millis (number_of numbers number.Timeout) (number_of numbers number.PageTimeout))
  pub idle_are : fetches.idle ≡ number_of numbers number.OriginKeepAlive
  pub bounds_are : MatchOption fetches.bounds (IsUnbounded numbers) (AreBounds numbers)
  pub crowd_is : fetches.crowd ≡ crowd_of (number_of numbers number.Fetches) (number_of numbers number.OriginFetches)
  pub lookup_is : fetches.lookup ≡ number_of numbers number.OriginLookup
  pub url_rest_is : fetches.url_rest ≡ number_of numbers number.UrlRest
  pub bodies_are : AreBodyLimits numbers fetches.bodies

-- pages are assembled as theirs say
pub record ArePagesOf (numbers : Numbers) (pages : Assembling) : Type 0 where
  pub workers_are : pages.workers ≡ number_of numbers number.Workers
  pub fetches_are : pages.fetches ≡ number_of numbers number.Fetches
  pub ahead_is : pages.ahead ≡ ahead_for (number_of numbers number.Fetches) (value_of numbers number.Ahead)
  pub levels_are : pages.levels ≡ number_of numbers number.Levels
  pub bytes_are : pages.bytes ≡ bytes_of (number_of numbers number.PageBytes)

-- clients may take as long as theirs say
pub record AreClientsOf (numbers : Numbers) (clients : Limits) : Type 0 where
  pub request_is : nanos_of clients.request ≡ limit_of (number_of numbers number.ClientTimeout)
  pub response_is : nanos_of clients.response ≡ limit_of (number_of numbers number.ClientTimeout)
  pub idle_is : nanos_of clients.idle ≡ idle_of (number_of numbers number.KeepAlive)

-- each part is what its option asks for
pub record AreAskedBy (setup : Setup) (options : ServerOptions) : Type 0 where
  pub addresses_are : options.addresses ≡ setup.addresses
  pub origins_are : options.origins ≡ setup.origins
  pub fetches_are : AreFetchesOf setup.numbers options.fetches
  pub name_is : options.name ≡ setup.name
  pub clients_are : AreClientsOf setup.numbers options.clients
  pub pages_are : ArePagesOf setup.numbers options.pages
  pub page_is : nanos_of options.page ≡ limit_of (number_of setup.numbers number.PageTimeout)
  pub capacity_is : options.capacity ≡ number_of setup.numbers number.Capacity
  pub threads_are : options.at_once.threads ≡ number_of setup.numbers number.Threads
  pub connections_are : options.at_once.connections ≡ number_of setup.numbers number.Connections
  pub accepts_are : options.accept ≡ unwrap_or (value_of setup.numbers number.Accept) 18_446_744_073_709_551_615
  pub flags_are : options.flags ≡ setup.flags
  pub log_is : options.log ≡ setup.log
  pub forwarded_is : options.forwarded ≡ setup.forwarded
  pub hosts_are : options.admin_hosts ≡ setup.admin_hosts
  pub fields_are : options.pass_fields ≡ setup.pass_fields
  pub sent_are : options.send_fields ≡ setup.send_fields
  pub private_are : options.private ≡ setup.private
