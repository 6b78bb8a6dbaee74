-- The limits of this project's profile, by the constants of the code.
use Rattle.std.specs.Prelude.{ℕ}
use Rattle.wu_core.specs.declared.limits.TheConstants.{CLASS_VERSION, HIGHEST_CLASS, HIGHEST_LIMIT, HIGHEST_QUORUM, HIGHEST_TARGET, LAST_DEADLINE, LAST_MOMENT, LONGEST_AGE, LONGEST_DELAY, LONGEST_INPUT, LONGEST_NAME, LONGEST_OUTPUT, MOST_CREDIT, MOST_INSTANCES, MOST_WORKUNITS, PRESENT_VERSION, QUEUE_VERSION}

-- The last moment: 2099-12-31T23:59:59Z.
abbrev pub last_moment : ℕ
last_moment = LAST_MOMENT

-- The longest delay of a result, in seconds: 365 days.
abbrev pub longest_delay : ℕ
longest_delay = LONGEST_DELAY

-- The highest least age of a purge, in seconds: 365 days.
abbrev pub longest_age : ℕ
longest_age = LONGEST_AGE

-- The last deadline: the longest delay after the last moment.
abbrev pub last_deadline : ℕ
last_deadline = LAST_DEADLINE

-- The most bytes of a name.
abbrev pub longest_name : ℕ
longest_name = LONGEST_NAME

-- The highest quorum of a workunit, and the highest target that a template may set.
abbrev pub highest_quorum : ℕ
highest_quorum = HIGHEST_QUORUM

-- The most credit that a result may be worth.
abbrev pub most_credit : ℕ
most_credit = MOST_CREDIT

-- The most instances of one workunit.
abbrev pub most_instances : ℕ
most_instances = MOST_INSTANCES

-- The highest target of a workunit: the validator may raise it to one more than the most instances.
abbrev pub highest_target : ℕ
highest_target = HIGHEST_TARGET

-- The highest class of a host.
abbrev pub highest_class : ℕ
highest_class = HIGHEST_CLASS

-- The most workunits that a project may ever have.
abbrev pub most_workunits : ℕ
most_workunits = MOST_WORKUNITS

-- The most bytes of an input, and of an output.
abbrev pub longest_input : ℕ
longest_input = LONGEST_INPUT

abbrev pub longest_output : ℕ
longest_output = LONGEST_OUTPUT

-- The version of the schema that a new project has.
abbrev pub present_version : ℕ
present_version = PRESENT_VERSION

-- The first version with a queue, and the first with classes of hosts.
abbrev pub queue_version : ℕ
queue_version = QUEUE_VERSION

abbrev pub class_version : ℕ
class_version = CLASS_VERSION

-- The most workunits that one pass may be asked to change.
abbrev pub highest_limit : ℕ
highest_limit = HIGHEST_LIMIT
