-- What is known of a call that makes a connection of a stream.

-- each connection that it gives may be polled
abbrev pub GivesPollable : {I H F : Type 0} → (I → H → F → Type 0) → (F → Type 0) → Type 0
GivesPollable gives can_poll = (io : _) (handover : _) (connection : _) → gives io handover connection → can_poll connection
